pub mod NumberSteps
pub mod Values
pub mod Steps
pub mod NumbersSteps
pub mod SectionSteps
pub mod OpcodeSteps
pub mod ImmediateSteps
