use Rattle.std.proofs.Common.{List, [], ◌∷◌, ◌++◌, refl, rules}
use Rattle.vst_base.specs.declared.entry.Entry.{Entry}
use Rattle.vst_base.specs.declared.what.What.{What}
use Rattle.vst_base.specs.declared.what.What.TheVariants.{Request}
use Rattle.raft_free.specs.Events.{Accept, Apply, Commit, Event, Match, Propose, Replicate}
use Rattle.raft_free.specs.Safety.{Possible}
use Rattle.raft_free.specs.Stories.{Happens, after, elected}
use Rattle.raft_free.proofs.safety.commits_are_possible.Goals as goal

abbrev entry : {C : Type 0} → What C → Entry C
entry what = record { term = 1; what = what }

-- nodes 0 and 1 commit it and apply it
abbrev committed : {C : Type 0} → What C → List (Event C)
committed what =
    elected
    ++ Propose 0 (entry what) ∷ Replicate 0 1 0 1 0 ∷ Accept 1 0 0 0 (entry what ∷ []) 0 ∷ Match 0 1 1 ∷ Commit 0 1 ∷ Apply 0 1
    ∷ Replicate 0 1 1 1 1 ∷ Accept 1 0 1 1 [] 1 ∷ Apply 1 1 ∷ []

happens : (C : Type 0) (what : What C) → Happens C (committed what)
happens C what = search rules

possible : (C : Type 0) → Possible C
possible C client request origin cmd =
    let what : What C = Request client request origin cmd in
    (after (committed what), entry what, record { events = committed what; run = happens C what }, refl, refl, refl, refl, refl, refl, refl)

pub returns : goal.returns
returns g c = possible _
