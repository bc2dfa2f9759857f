pub mod Words
pub mod Owned
pub mod Beginning
pub mod Spending
pub mod Bounding
pub mod Resting
pub mod Striding
pub mod Changing
pub mod Keeping
pub mod Allowing
pub mod Seeing
pub mod Futexes
pub mod Apart
pub mod Stepping
pub mod Leading
pub mod Walking
pub mod Repeating
pub mod Calling
pub mod Trying
pub mod Posting
pub mod PostingMany
pub mod Locking
pub mod Polling
pub mod Rousing
pub mod Acquiring
pub mod Holding
pub mod Looking
pub mod Entering
pub mod Retrying
pub mod Granting
pub mod Wakening
pub mod Leaving
pub mod GrantingMany
pub mod PickingMany
pub mod WakeningMany
pub mod Making
pub mod Reckoning
pub mod Gathering
pub mod LookingTogether
pub mod Lawful
pub mod After
mod Trial
mod Tellers
mod Finding
mod Sighting
mod CallerTries
mod CallerPosts
mod CallerWakes
mod CallerPolls
mod CallerLeaves
mod CallerEnters
mod CallerRetries
mod CallerAcquires
mod CallerTimed
mod CallerLooksMany
mod CallerWakesMany
mod CallerEnds
