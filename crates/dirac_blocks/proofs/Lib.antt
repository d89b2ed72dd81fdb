mod Appended
mod BackwardLoops
mod Backwards
mod Examples
pub mod Filled
mod ForwardLoops
mod Forwards
mod Fronts
mod Going
mod InContexts
mod InLists
mod InOrder
mod InTurn
mod Narrowing
pub mod Nearby
mod Ones
mod Shapes
mod SplitBackwards
mod SplitForwards
mod UnitValues
pub mod Spelled
pub mod Stages
mod Valued
