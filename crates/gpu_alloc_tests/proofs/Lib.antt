mod EmptyMaps
mod Ready
mod WholeAtoms
