pub mod MaskCodes
