pub mod IsDown
