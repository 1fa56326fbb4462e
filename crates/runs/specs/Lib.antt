-- What runs and their table promise.
pub mod Limits
pub mod Cut
pub mod Shapes
pub mod Bitmap
pub mod Loans
pub mod Table
