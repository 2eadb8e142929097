mod WorkedWords
mod WorkedMakes
