mod Alike
mod Family
mod Joining
mod Attached
mod Nets
mod Numbering
mod InOrder
mod Tables
pub mod Walks
pub mod WalkedArcs
pub mod Reversed
pub mod BareChains
pub mod PartSpans
pub mod LeftWalks
mod AliveNumbers
mod Times
mod PathCounts
mod Listing
mod OnPath
mod OnWay
mod Chains
pub mod AliveSame
mod NodeJoins
mod JoinStored
mod Limits
mod Counting
mod InTurn
mod KeyLists
pub mod LabelSteps
mod SettledKeys
mod EndedEdges
mod Continued
mod StepFaces
mod FewSteps
mod Settled
mod Touched
mod StartLists
mod StartNet
mod StartStored
mod Rested
mod NextJoints
mod StepJoints
mod StartJoints
mod Steps
mod Few
mod LaidSteps
mod FlatRows
pub mod Forests
pub mod RemovedPoints
