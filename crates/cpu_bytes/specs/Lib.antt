pub mod Cpus
