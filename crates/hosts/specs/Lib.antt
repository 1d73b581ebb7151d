pub mod Books
pub mod Held
pub mod Layouts
pub mod Shown
pub mod Sound
