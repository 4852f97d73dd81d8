-- Laws of what is found out, and of what is shown of it.
mod Cases
mod Shown
