mod Adding
mod FirstEvents
