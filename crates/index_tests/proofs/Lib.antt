pub mod WorkedSegment
