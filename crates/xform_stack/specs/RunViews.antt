-- What contracts see of a running schedule.

-- a network, and what observes it
pub record RunView (W F : Type 0) : Type 0 where
  pub network : W
  pub image : F
