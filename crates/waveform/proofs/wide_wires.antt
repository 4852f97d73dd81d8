-- Laws of a wire's text.
mod Cases
