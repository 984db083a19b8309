pub mod Counting
pub mod Divisibility
pub mod Fraction
pub mod Lexicographic
pub mod Vector
