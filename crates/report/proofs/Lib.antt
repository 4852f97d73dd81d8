-- Laws of what is shown of a script.
mod Cases
mod NoteCases
