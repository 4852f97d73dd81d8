-- A law of the lines around the pokes.
mod Either
