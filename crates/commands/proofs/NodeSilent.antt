-- What runs of worked rows come to whose input and device tell nothing.
use Rattle.std.specs.Prelude.{◌≡◌, ℕ, List, [], ◌∷◌, ◌++◌, length, drop, replicate, Option, None, Some, Result, Err}
use Rattle.std.proofs.Common.{ap, arith, refl}
use Rattle.std.proofs.lemmas.List.{length-append, length-drop, length-replicate}
use Rattle.node_config.specs.Outcomes.{Fits}
use Rattle.node_datagrams.specs.Saying.{SendsOnly}
use Rattle.node_device.specs.Examples.{node_at, untold}
use Rattle.node_device.specs.Faults.{Faults}
use Rattle.commands.specs.NodeComing.{Comes, IsConfigured, IsServed}
use Rattle.commands.specs.NodeExamples.{alone, device, idle, source, words}
use Rattle.commands.specs.NodeTelling.{MaySayMemory}
use Rattle.commands.specs.declared.trouble.Trouble.{Trouble}
use Rattle.commands.specs.declared.trouble.Trouble.TheVariants as trouble

pub fits : Fits 0 alone
fits = record {
  stack = refl;
  me_is = refl;
  within = omega arith;
  peers = omega arith;
  clients = omega arith;
  ports = refl;
  distinct = refl;
  heartbeat = (omega arith, omega arith);
  election = (omega arith, omega arith);
}

pub configured : (before after : Faults) → IsConfigured words (source 0) (source 0) (device untold before) (device untold after) alone (node_at 7000)
configured before after = record { read = record { fits = fits; says = tt; ended = tt; quiet = refl }; at_is = refl }

pub served : (before after : Faults) → SendsOnly before after → IsServed words (source 0) (source 0) (device untold before) (device untold after)
served before after counts = record {
  config = alone;
  at = node_at 7000;
  configured_so = configured before after;
  areas = tt;
  turns = refl;
  counts = counts;
}

-- how many bytes are told
abbrev pub sized : Option (List ℕ) → ℕ
sized None = 0
sized (Some text) = length text

-- so many bytes of one kind and one byte more are not nothing after so many
pub one_more : (n : ℕ) → ◌≡◌ {A = Option (List ℕ)} (Some []) (Some (drop n (replicate n 35 ++ 97 ∷ []))) → ⊥
one_more n is =
    let many : List ℕ = replicate n 35 in
    let last : List ℕ = 97 ∷ [] in
    let gone : 0 ≡ length (drop n (many ++ last)) = ap sized is in
    let byte : ℕ = 35 in
    omega (arith, gone, length-drop n (many ++ last), length-append many last, length-replicate n byte)

-- memory was wanted before the device had begun
pub wanting_first : (came : Result (Unit {0}) Trouble) × Comes words (source 0) (source 0) idle idle came × MaySayMemory came
wanting_first = (Err trouble.Memory, record { quiet = refl; device_stays = refl }, tt)

-- a read failed
pub unread : Comes words (source 0) (source 1) idle idle (Err trouble.Read)
unread = record { given = (0, omega arith, refl); rose = omega arith; device_stays = refl }
