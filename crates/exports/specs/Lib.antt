-- What crosses to C in another form than it has here.
pub mod Codes
pub mod Raw
