pub mod SeriesFalls
pub mod Squares
pub mod Sides
pub mod Within
pub mod Answers
pub mod Examples
