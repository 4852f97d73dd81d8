-- What a field puts out, how two of them may differ, and what their nine bytes then say.
pub mod Field
pub mod Apart
pub mod Told
pub mod Bench
