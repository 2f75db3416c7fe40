pub mod SliceForms
