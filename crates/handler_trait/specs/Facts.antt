-- What handlers promise, as one record. A clause names it by its bound: `H.Handlers`, or `H.Rebootable`.
use Rattle.std.specs.Prelude.{ℕ}
use Rattle.handler_trait.specs.Handling.{Meaning, Recovery}
use Rattle.handler_trait.specs.declared.handlers.Handlers.{Ghosts as OfHandlers}
use Rattle.handler_trait.specs.declared.rebootable.Rebootable.{Ghosts as OfRebootable}

abbrev pub HandlersFacts : (H S I O M : Type 0) → Type 1
HandlersFacts H S I O M = OfHandlers H S I O M

-- that of handlers whose nodes stop and start again: of both traits
abbrev pub RebootableFacts : (H S K I O M : Type 0) → Type 1
RebootableFacts H S K I O M = record {
  meaning : H → Meaning S I O M;
  sound : H → ℕ → S → Type 0;
  spent : H → S → ℕ;
  SENDS : ℕ;
  recovery : H → Recovery S K;
  fits : H → K → Type 0;
}

-- the same in a proof, which names the two traits' own records: `g.H.Handlers` and `g.H.Rebootable`
abbrev pub rebootable_facts : {H S K I O M : Type 0} → OfHandlers H S I O M → OfRebootable H K S I O M → RebootableFacts H S K I O M
rebootable_facts h r = record { meaning = h.meaning; sound = h.sound; spent = h.spent; SENDS = h.SENDS; recovery = r.recovery; fits = r.fits }

-- what these handlers promise: what their events make, what each state of a node keeps to, and what it has used up
pub record Promises (S I O M : Type 0) : Type 1 where
  pub meaning : Meaning S I O M
  pub sound : ℕ → S → Type 0
  pub spent : S → ℕ

abbrev pub promises_of : {H S I O M : Type 0} → HandlersFacts H S I O M → H → Promises S I O M
promises_of f h = record { meaning = f.meaning h; sound = f.sound h; spent = f.spent h }

-- and where their nodes stop and start again: also how, and what a kept value keeps to
pub record RebootPromises (S K I O M : Type 0) : Type 1 where
  pub handlers : Promises S I O M
  pub recovery : Recovery S K
  pub fits : K → Type 0

abbrev pub reboot_promises_of : {H S K I O M : Type 0} → RebootableFacts H S K I O M → H → RebootPromises S K I O M
reboot_promises_of f h = record {
  handlers = record { meaning = f.meaning h; sound = f.sound h; spent = f.spent h };
  recovery = f.recovery h;
  fits = f.fits h;
}
