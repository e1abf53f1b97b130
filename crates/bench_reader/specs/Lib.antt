-- What a netlist is
pub mod Netlist
pub mod Tokens
pub mod Grammar
pub mod Reading
pub mod Refusal
pub mod Spelled
-- What is known of every netlist that is read
pub mod Driven
-- Statements before their names are judged, and how they are
pub mod Parsed
pub mod Drivers
-- How a text is read: bytes, tokens, statements
pub mod Bytes
pub mod Scanning
pub mod Shapes
pub mod Stops
pub mod Numbering
-- What the fields of the types show
pub mod Names
pub mod Fields
pub mod ParsedFields
-- Laws
pub mod Laws
