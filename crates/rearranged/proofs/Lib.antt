pub mod MachineStore
pub mod Places
pub mod Laws
pub mod Bytes
pub mod Exhibit
