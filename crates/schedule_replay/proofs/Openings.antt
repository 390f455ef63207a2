-- What a replay comes to, by how its text opens.
use Rattle.std.specs.Prelude.{◌≡◌, ◌≢◌, ◌⊎◌, ℕ, Bool, true, false, ◌+◌, ◌-◌, ◌≤◌, List, [], ◌++◌, length, Option, Some, IfErr, Result, Ok, Err, refl}
use Rattle.std.proofs.Common.{inl, inr, ap, ◌∙◌, sym, subst, append_assoc, arith, length-append}
use Rattle.outside.specs.Wholes.{Gained, GainedPrefix}
use Rattle.outside.proofs.Wholes.{gained-nothing}
use Rattle.line_reader.specs.declared.why.Why.{Why}
use Rattle.line_reader.specs.Lines.{lines_of, whole_lines, decided}
use Rattle.line_reader.specs.Readers.{ReaderView, HasRest, fresh}
use Rattle.line_reader.specs.Outcomes.{Uses, ReadsPast}
use Rattle.line_reader.proofs.Lining.{whole-append, last-append}
use Rattle.line_reader.proofs.Using.{decided-after}
use Rattle.schedule_text.specs.declared.header.Header.{Header}
use Rattle.schedule_text.specs.Schedules.{Opening, Opened, RefusedAt, EndedAt, opening, opening_refusal}
use Rattle.schedule_text.specs.Streams.{HeaderIsNear, ReadsHeader}
use Rattle.schedule_text.specs.declared.text_faults.TextFault.{TextFault}
use Rattle.schedule_text.specs.declared.text_faults.TextFault.TheVariants as text
use Rattle.schedule_text.proofs.ScheduleLaws.{opening_with, opening-append}
use Rattle.schedule_text.proofs.Skipping.{past-after}
use Rattle.schedule_replay.specs.declared.done.Done.{Done}
use Rattle.schedule_replay.specs.declared.fault.ReplayFault.{ReplayFault}
use Rattle.schedule_replay.specs.declared.fault.ReplayFault.TheVariants as fault
use Rattle.schedule_replay.specs.Faults.{replay_fault}
use Rattle.schedule_replay.specs.Replaying.{Replayed, refused_at}
use Rattle.schedule_replay.specs.Replays.{replayed_by, replayed_header, replayed_opening, replayed, replayed_so_far}
use Rattle.schedule_replay.specs.Rests.{rest_whole, rest_so_far}
use Rattle.schedule_replay.specs.Explained.{most_lines}
use Rattle.stacks.proofs.Found.{plays-from-stack}
use Rattle.stacks.specs.Plays.{Found, Here, IfFound, Nowhere, found_or, AnyPlay, ImageTexts, Play, Texts, play_of}
use Rattle.stacks.specs.Stack.{stack_at}
use Rattle.stacks.specs.Table.{plays_at}
use Rattle.xform_stack.specs.Systems.{Played}
use Rattle.line_reader.specs.declared.why.Why.TheVariants as why
use Rattle.schedule_replay.specs.Outcomes.{HasGiven, ComesTo, HasCause, KeepsSink, KeptUp, ReplaysRest}
use Rattle.schedule_replay.proofs.Endings.{given-of}
use Rattle.schedule_replay.proofs.Finishing.{front-none}
use Rattle.schedule_replay.proofs.Keeping.{past-end}
use Rattle.schedule_replay.proofs.Plays.{nothing-left}

-- a text that is refused for its opening has no trace
refused-opening : (o : Opening) (r : ℕ × Why) → opening_refusal o ≡ Some r → ((replayed_opening true o).refused ≡ Some r) × ((replayed_opening true o).out ≡ [])
refused-opening (Opened h n ls) r e = cc
refused-opening (RefusedAt n w) r e = (e, refl)
refused-opening (EndedAt n) r e = (e, refl)

gained-none : (out : Option (List ℕ)) (text : List ℕ) → text ≡ [] → Gained out out text
gained-none out text none = rw none (gained-nothing out)

-- no header was read
pub header-comes : (new : ReaderView) (left' out : Option (List ℕ)) (bytes : List ℕ) (found : TextFault) (answer : ReplayFault) → answer ≡ replay_fault found → ReadsHeader (fresh most_lines) new left' bytes (Err found)
    → ComesTo replayed replayed_so_far 0 bytes left' out out (Err answer)
header-comes new left' out bytes text.Read answer is (part, breaks, n, none) = rw is (record {
  given = part;
  gave = record { others = breaks.rest'; whole = breaks.whole; left_is = breaks.left_is };
  short = breaks.short;
  taken = ap (λ (o : Opening). (replayed_opening false o).refused) none;
  written = gained-none out (replayed_so_far part).out (ap (λ (o : Opening). (replayed_opening false o).out) none);
  front = front-none out (replayed bytes).out;
})
header-comes new left' out bytes (text.Refused n w) answer is (stands, refused) =
    let both = refused-opening (opening most_lines 1 (lines_of bytes)) (n, w) refused in
    let gave = given-of (fresh most_lines) new left' bytes n stands in
    rw is (record {
      refused = both.0;
      written = gained-none out (replayed bytes).out both.1;
      given = gave.0;
      gave = gave.1;
      later = stands.later;
      ahead = gave.2;
    })
header-comes new left' out bytes text.Memory answer is reads = rw is (front-none out (replayed bytes).out)

-- nothing was written of a text that was read up to its header
pub kept-header : (left out : Option (List ℕ)) (bytes : List ℕ) → HeaderIsNear (fresh most_lines) left bytes → KeptUp replayed_so_far bytes left out out
kept-header left out bytes (early, past, n, none) = record {
  early = early;
  past = past;
  more = [];
  written = subst (λ (o : Opening). Gained out out ((replayed_opening false o).out ++ [])) (sym none) (gained-nothing out);
}

-- before a byte of it was read
pub kept-unread : (left out : Option (List ℕ)) (bytes : List ℕ) → left ≡ Some bytes → KeptUp replayed_so_far bytes left out out
kept-unread left out bytes told =
    kept-header left out bytes ([], record { late = []; others = bytes; left_is = told; whole = refl; few = omega arith }, 1, refl)

-- what a text is by its header
module _ (h : Header) (r : ReaderView) (most : r.most ≡ most_lines) (events : r.events ≡ 0) (used : List ℕ) (opens : opening most_lines 1 (lines_of used) ≡ Opened h (r.number + 1) []) where
  stack-same : (whole : Bool) (ls : List (List ℕ)) → replayed_header whole h most_lines (r.number + 1) 0 ls ≡ replayed_header whole h r.most (r.number + 1) r.events ls
  stack-same whole ls = rw (most, events) refl

  opened-same : (whole : Bool) (ls : List (List ℕ)) → replayed_opening whole (opening most_lines 1 (lines_of used ++ ls)) ≡ replayed_header whole h r.most (r.number + 1) r.events ls
  opened-same whole ls =
      ap (replayed_opening whole) (opening-append most_lines 1 (lines_of used) ls ∙ ap (λ (o : Opening). opening_with o ls most_lines) opens) ∙ stack-same whole ls

  module _ (left left' out out' : Option (List ℕ)) (bytes : List ℕ) (u : Uses (fresh most_lines) r left bytes used) where
    whole-same : replayed bytes ≡ rest_whole h r u.rest'
    whole-same = ap (λ ls. replayed_opening true (opening most_lines 1 ls)) u.lines ∙ opened-same true (lines_of u.rest')

    so_far-same : (given : List ℕ) → r.ended ≡ false → replayed_so_far (used ++ given) ≡ rest_so_far h r given
    so_far-same given going = ap (λ ls. replayed_opening false (opening most_lines 1 ls)) (whole-append used given (u.closed going)) ∙ opened-same false (whole_lines given)

    gave-all : (given : List ℕ) → HasGiven u.rest' left' given → HasGiven bytes left' (used ++ given)
    gave-all given gave = record {
      others = gave.others;
      whole = u.whole ∙ (ap (λ xs. used ++ xs) gave.whole ∙ sym (append_assoc used given gave.others));
      left_is = gave.left_is;
    }

    front-same : GainedPrefix out out' (rest_whole h r u.rest').out → GainedPrefix out out' (replayed bytes).out
    front-same front = subst (λ (x : Replayed). GainedPrefix out out' x.out) (sym whole-same) front

    kept-then : (over : Bool) → r.ended ≡ over → HeaderIsNear (fresh most_lines) left bytes
        → KeptUp (rest_so_far h r) u.rest' left' out out' → KeptUp replayed_so_far bytes left' out out'
    kept-then false going near k = record {
      early = used ++ k.early;
      past = past-after (fresh most_lines) r left left' bytes used k.early u k.past;
      more = k.more;
      written = subst (λ (x : Replayed). Gained out out' (x.out ++ k.more)) (sym (so_far-same k.early going)) k.written;
    }
    kept-then true over (early, past, n, none) k =
        let empty = u.left.at_end over in
        let same : left' ≡ left = past-end left' u.rest' k.early k.past empty ∙ sym (nothing-left r left (subst (λ (xs : List ℕ). HasRest r left xs) empty u.left)) in
        let more = (rest_so_far h r k.early).out ++ k.more in
        record {
          early = early;
          past = subst (λ (l : Option (List ℕ)). ReadsPast l bytes early) (sym same) past;
          more = more;
          written = subst (λ (o : Opening). Gained out out' ((replayed_opening false o).out ++ more)) (sym none) k.written;
        }

    -- it was kept up with, by its header or by what stands after it
    pub kept-all : HeaderIsNear (fresh most_lines) left bytes
        → ((left' ≡ left) × (out' ≡ out)) ⊎ ((rest : List ℕ) → HasRest r left rest → KeptUp (rest_so_far h r) rest left' out out')
        → KeptUp replayed_so_far bytes left' out out'
    kept-all near (inl same) =
        subst (λ (l : Option (List ℕ)). KeptUp replayed_so_far bytes l out out') (sym same.0)
        (subst (λ (o : Option (List ℕ)). KeptUp replayed_so_far bytes left out o) (sym same.1) (kept-header left out bytes near))
    kept-all near (inr kept) = kept-then r.ended refl near (kept u.rest' u.left)

    pub header-then : (result : Result Done ReplayFault) → (result ≡ Err fault.Read → r.ended ≡ false)
        → ComesTo (rest_whole h r) (rest_so_far h r) r.number u.rest' left' out out' result → ComesTo replayed replayed_so_far 0 bytes left' out out' result
    header-then (Ok done) going a = record {
      ended = a.ended;
      taken = ap (λ (x : Replayed). x.refused) whole-same ∙ a.taken;
      counts = a.counts ∙ ap (λ (x : Replayed). x.counts) (sym whole-same);
      written = subst (λ (x : Replayed). Gained out out' x.out) (sym whole-same) a.written;
    }
    header-then (Err fault.Read) going a =
        let same = so_far-same a.given (going refl) in
        record {
          given = used ++ a.given;
          gave = gave-all a.given a.gave;
          short = subst (λ (xs : List ℕ). length xs ≤ 4096) (sym (last-append used a.given (u.closed (going refl)))) a.short;
          taken = ap (λ (x : Replayed). x.refused) same ∙ a.taken;
          written = subst (λ (x : Replayed). Gained out out' x.out) (sym same) a.written;
          front = front-same a.front;
        }
    header-then (Err (fault.Refused n w)) going a =
        let k = length (lines_of used) in
        let j = n - r.number in
        let there : n - 0 ≡ k + j = omega (arith, a.later, u.number) in
        let size = ap length u.whole ∙ length-append used u.rest' in
        let decides = ap (λ i. decided i bytes) there ∙ decided-after k j bytes u.rest' u.advanced (omega (arith, a.later)) in
        record {
          refused = ap (λ (x : Replayed). x.refused) whole-same ∙ a.refused;
          written = subst (λ (x : Replayed). Gained out out' x.out) (sym whole-same) a.written;
          given = used ++ a.given;
          gave = gave-all a.given a.gave;
          later = omega (arith, a.later);
          ahead = omega (arith, length-append used a.given, a.ahead, decides, size);
        }
    header-then (Err fault.Write) going a = front-same a
    header-then (Err fault.Memory) going a = front-same a

-- a reader that has read nothing has the whole text before it
pub fresh-rest : (r : ReaderView) (left : Option (List ℕ)) (bytes : List ℕ) → r ≡ fresh most_lines → left ≡ Some bytes → HasRest r left bytes
fresh-rest r left bytes is told = record {
  unread = bytes;
  left_is = told;
  rest_is = ap (λ (v : ReaderView). v.ahead ++ bytes) (sym is);
  at_end = λ over. let both : ◌≡◌ {A = Bool} false true = sym (ap (λ (v : ReaderView). v.ended) is) ∙ over in cc;
}

-- a read that failed was made before the end was met
pub going-of : (ended : Bool) (f f' w w' : ℕ) (result : Result Done ReplayFault) → IfErr result (HasCause ended f f' w w') → result ≡ Err fault.Read → ended ≡ false
going-of ended f f' w w' result cause is =
    let both : HasCause ended f f' w w' fault.Read = subst (λ (r : Result Done ReplayFault). IfErr r (HasCause ended f f' w w')) is cause in
    both.1 refl

-- what replaying the rest of a text comes to, by what replay makes of its lines
pub record FoundRest (makes : Bool → List (List ℕ) → Replayed) (r : ReaderView) (left left' : Option (List ℕ)) (read read' : ℕ) (out out' : Option (List ℕ)) (write write' wants wants' : ℕ)
    (result : Result Done ReplayFault) : Type 0 where
  pub told : (rest : List ℕ) → HasRest r left rest → ComesTo (λ bs. makes true (lines_of bs)) (λ bs. makes false (whole_lines bs)) r.number rest left' out out' result
  pub kept_up : ((left' ≡ left) × (out' ≡ out)) ⊎ ((rest : List ℕ) → HasRest r left rest → KeptUp (λ bs. makes false (whole_lines bs)) rest left' out out')
  pub reads_quiet : result ≢ Err fault.Read → read' ≡ read
  pub fault : IfErr result (HasCause r.ended read read' write write')
  pub quiet : KeepsSink write write' wants wants' result
  pub reads : read ≤ read'
  pub writes : write ≤ write'

found-rest : (found : Found AnyPlay) (r : ReaderView) (left left' out out' : Option (List ℕ)) (read read' write write' wants wants' : ℕ) (result : Result Done ReplayFault)
    → IfFound found (λ a. ReplaysRest a.play r left left' read read' out out' write write' wants wants' result)
    → FoundRest (λ whole ls. found_or (refused_at ((r.number + 1) - 1) why.Header) (λ a. replayed_by a.play whole r.most (r.number + 1) r.events ls) found)
    r left left' read read' out out' write write' wants wants' result
found-rest Nowhere r left left' out out' read read' write write' wants wants' result none = absurd none
found-rest (Here a) r left left' out out' read read' write write' wants wants' result by = record { told = by.told; kept_up = by.kept_up; reads_quiet = by.reads_quiet; fault = by.fault; quiet = by.quiet; reads = by.reads; writes = by.writes }

-- what stands after a header comes to what the stack of the header makes of it
pub found-comes : (h : Header) (r : ReaderView) (left left' out out' : Option (List ℕ)) (read read' write write' wants wants' : ℕ) (result : Result Done ReplayFault)
    → IfFound (stack_at h) (λ a. ReplaysRest a.plays.play r left left' read read' out out' write write' wants wants' result)
    → FoundRest (λ whole ls. replayed_header whole h r.most (r.number + 1) r.events ls) r left left' read read' out out' write write' wants wants' result
found-comes h r left left' out out' read read' write write' wants wants' result there =
    found-rest (plays_at h) r left left' out out' read read' write write' wants wants' result
    (plays-from-stack h (λ a. ReplaysRest a.play r left left' read read' out out' write write' wants wants' result) there)

-- how schedules of a stack play is known from what is run, the texts and the image
pub same-play : {I O G : Type 0} (p : Play I O G) (run : Played I O G) (t : Texts I O) (i : ImageTexts G) → p ≡ play_of run p.texts p.below → p.texts ≡ t → p.below ≡ i → play_of run t i ≡ p
same-play p run t i runs texts below = sym (runs ∙ (ap (λ x. play_of run x p.below) texts ∙ ap (λ x. play_of run t x) below))
