pub mod Mistaken
