pub mod Printed
pub mod ScriptLaws
