-- Laws of commands.
mod Cases
