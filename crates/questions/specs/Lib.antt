-- What the commands that only ask find out, and what is shown of it.
pub mod Questions
pub mod Answers
