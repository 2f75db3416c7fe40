pub mod Down
mod Packets
mod Lists
mod CountLists
mod InWindow
mod NearEdges
mod StepChanges
mod StepCounts
mod StepRows
mod StepWhole
mod WindowDown
