-- `Entries`, `Heads`, `Tables`, `Nodes` have a law for each field; `ReadBack` and what it cites say that what is written is read
-- back, `Sound` and what it cites that what is read was so written; `Sizes` bounds an image; `Theorems` has the promises; `Verdict` what accepting an image tells;
-- `Recording` computes recording 13. Assumes nothing.
pub mod Entries
pub mod Heads
pub mod Tables
pub mod Nodes
pub mod Roots
pub mod Holding
pub mod KindThree
pub mod ByByte
pub mod KindTwo
pub mod KindOne
pub mod ReadBack
pub mod ListsBack
pub mod Slots
pub mod Spots
pub mod TrieBack
pub mod BytesRead
pub mod EndedWell
pub mod Sound
pub mod KindThreeSound
pub mod KindTwoSound
pub mod KindOneSound
pub mod NodeSound
pub mod Shapes
pub mod Sizes
pub mod Theorems
pub mod Verdict
pub mod Recording
