-- What is asked and promised of triangles of lent slices that are read upright.
pub mod Sides
pub mod Promise
