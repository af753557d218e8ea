-- What writing the program's answer means, in the definition's terms.
pub mod Put
pub mod Answer
