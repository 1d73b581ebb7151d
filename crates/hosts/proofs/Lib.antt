pub mod Books
pub mod Wishes
