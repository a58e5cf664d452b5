-- Laws on the key of a method: when two are the same, which methods have the same key, and the deviation in it.
pub mod Keys
pub mod Deviation
pub mod SameMethod
pub mod MethodFloats
pub mod Equal
