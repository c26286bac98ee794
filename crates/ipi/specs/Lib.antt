pub mod Ipi
