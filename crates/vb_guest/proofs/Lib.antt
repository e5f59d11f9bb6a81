pub mod RingHeads
pub mod RingPosted
pub mod RingTaken
pub mod RingUsed
pub mod RingReaped
pub mod RingApart
pub mod Heads
pub mod Taking
pub mod Apart
mod RunApart
pub mod Finishing
pub mod Posting
pub mod Reaping
pub mod Closing
pub mod Refusing
pub mod Chains
pub mod KindLines
pub mod TakeStep
pub mod Discarding
pub mod PagesKept
pub mod FinishStep
pub mod Writing
pub mod Moving
pub mod Standing
pub mod Kept
pub mod WriteStep
pub mod TargetStep
pub mod Freed
pub mod SweepStep
pub mod WorkStep
pub mod Claimed
pub mod ReadStep
pub mod Named
pub mod DriverWords
pub mod AllocStep
pub mod FreeStep
pub mod Offered
pub mod InflateStep
pub mod DeflateStep
pub mod ReapStep
pub mod Counted
pub mod Runs
pub mod Supplying
pub mod Claiming
pub mod Starting
pub mod InitStep
pub mod ResetStep
pub mod ReportChain
pub mod BufferChain
pub mod EachOnce
pub mod OwnBlocks
pub mod SameRefusals
pub mod BufferLines
pub mod ReportLines
pub mod Handing
mod Running
mod Losing
pub mod AskStep
pub mod TakeBufferStep
pub mod ReapRefusing
pub mod StatsStep
pub mod ReportStep
pub mod Fresh
pub mod RestartStep
pub mod Rogues
pub mod RogueDriver
pub mod RogueDevice
pub mod RogueQueues
pub mod Asked
pub mod RogueLives
pub mod RogueMemory
pub mod Scribbles
pub mod Exactly
pub mod Filling
pub mod Quiet
mod SupplyFacts
mod ExactFacts
mod StandFacts
mod RogueFacts
mod LineFacts
mod LifeFacts
mod PromiseFacts
mod ServeFacts
pub mod ServeCases
pub mod ServeRefusing
pub mod ServeStep
pub mod RogueServe
pub mod Reaching
pub mod ServeWhole
