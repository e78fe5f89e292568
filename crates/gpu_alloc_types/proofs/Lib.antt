pub mod TypeMasks
