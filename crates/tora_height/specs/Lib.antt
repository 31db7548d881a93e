pub mod Height
pub mod HeightOrder
pub mod HeightText
pub mod HeightErrors
