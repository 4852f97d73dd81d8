-- Laws of the form.
mod Cases
mod Missed
