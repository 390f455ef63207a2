use Rattle.std.proofs.Common.{◌≡◌, List, [], ◌∷◌, ◌++◌, refl, inl, arith}
use Rattle.vst_base.specs.declared.pb_out.PbOut.TheVariants as told
use Rattle.vst_base.specs.declared.step.Item.TheVariants as item
use Rattle.net_semantics.specs.Echo.{adder}
use Rattle.primary_backup.proofs.Seen.{no_cut, see_nothing, see_reply, see_input, explained}
use Rattle.primary_backup.proofs.examples.worked_traces.Goals as goal

pub returns-clause-nothing : goal.returns-clause-nothing
returns-clause-nothing c = explained adder [] 0 0 (see_nothing adder 0 [] 0 (inl refl))

pub returns-clause-one_reply : goal.returns-clause-one_reply
returns-clause-one_reply c =
    let reply = see_reply adder 0 5 (7 ∷ []) [] 5 5 (see_nothing adder 5 (7 ∷ []) 5 (inl refl)) in
    let second = see_input adder 0 (5 ∷ []) 7 (item.Output 0 (told.Reply 0) ∷ []) 5 5 reply in
    let first = see_input adder 0 [] 5 (item.Input 0 7 ∷ item.Output 0 (told.Reply 0) ∷ []) 5 5 second in
    explained adder (item.Input 0 5 ∷ item.Input 0 7 ∷ item.Output 0 (told.Reply 0) ∷ []) 5 5 first

pub returns-clause-reply_before_its_input : goal.returns-clause-reply_before_its_input
returns-clause-reply_before_its_input c h = let f = h.answers [] (item.Input 0 5 ∷ []) (told.Reply 0) refl in omega arith

pub returns-clause-not_redirected : goal.returns-clause-not_redirected
returns-clause-not_redirected c h = let f = (h.redirected [] [] 4 refl).1 in cc

pub returns-clause-redirected_late : goal.returns-clause-redirected_late
returns-clause-redirected_late c h = let f = (h.redirected [] (item.Input 0 5 ∷ item.Output 1 told.Redirect ∷ []) 4 refl).1 in cc

pub returns-clause-reply_of_the_backup : goal.returns-clause-reply_of_the_backup
returns-clause-reply_of_the_backup c h = let f = (h.redirected [] (item.Output 1 (told.Reply 0) ∷ []) 4 refl).1 in cc

pub returns-clause-redirect_of_nothing : goal.returns-clause-redirect_of_nothing
returns-clause-redirect_of_nothing c h =
    let found = h.nothing_else [] [] told.Redirect refl in
    no_cut found.front [] (item.Input 1 found.input) found.last_is

-- the last of two items
last_of_two : {X : Type 0} (x y z : X) (front : List X) → x ∷ y ∷ [] ≡ front ++ z ∷ [] → y ≡ z
last_of_two x y z [] e = cc
last_of_two x y z (a ∷ []) e = cc
last_of_two x y z (a ∷ b ∷ front) e = let f : [] ≡ front ++ z ∷ [] = cc in absurd (no_cut front [] z f)

pub returns-clause-redirected_twice : goal.returns-clause-redirected_twice
returns-clause-redirected_twice c h =
    let found = h.nothing_else (item.Input 1 4 ∷ item.Output 1 told.Redirect ∷ []) [] told.Redirect refl in
    let f = last_of_two (item.Input 1 4) (item.Output 1 told.Redirect) (item.Input 1 found.input) found.front found.last_is in
    cc
