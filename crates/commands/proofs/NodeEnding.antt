-- How a node's run ends: each status by what the run came to and said.
use Rattle.std.specs.Prelude.{◌≡◌, ◌⊎◌, ℕ, List, Result, Ok, Err}
use Rattle.std.proofs.Common.{inl, inr, ap, ◌∙◌, subst, sym, arith, refl}
use Rattle.command_line.specs.AskedNodes.{NodeWordsView}
use Rattle.outside.specs.Counting.{Rose}
use Rattle.outside.specs.Wholes.{Gained, GainedPrefix}
use Rattle.commands.specs.Lines.{memory_line}
use Rattle.commands.specs.Saying.{Said, Tells}
use Rattle.commands.specs.Seen.{KeepsCounts, SinkSeen}
use Rattle.udp_node.specs.declared.fault.NodeFault.TheVariants as fault
use Rattle.commands.specs.NodeLines.{line_of, status_of}
use Rattle.commands.specs.NodeSeen.{NodeRun}
use Rattle.commands.specs.NodeStatuses.{AreAreasRefused, CameTo, EndsBy, HasCome, HasListeningFailed, HasWriteFailed, IsConfigRefused, IsDone, IsNodeStatus, IsOutOfMemory, MaySay, WantedAtRead, WantsMemory, WasSaying, WroteTurnsAtMost}
use Rattle.commands.specs.NodeTelling.{Ends, MaySayMemory, OutWanted, TellsLine, TellsTurns, TellsWhat}
use Rattle.commands.specs.declared.trouble.Trouble.{Trouble}
use Rattle.commands.specs.declared.trouble.Trouble.TheVariants as trouble

-- a run ends in one of these ways
pub data Ending (w : NodeWordsView) (r : NodeRun) (result : ℕ) : Type 0 where
  Finished : IsDone w r → result ≡ 0 → Ending w r result
  Ended : (t : Trouble) → EndsBy w r t → result ≡ status_of t → Ending w r result
  Failed : HasWriteFailed w r → result ≡ 5 → Ending w r result
  Wanted : IsOutOfMemory w r → result ≡ 8 → Ending w r result

module _ (w : NodeWordsView) (r : NodeRun) where
  -- no read failed where `memory` may be said
  pub reads_stay : (came : Result (Unit {0}) Trouble) → CameTo w r came → MaySayMemory came → r.streams.after.input.faults ≡ r.streams.before.input.faults
  reads_stay (Ok x) came may = came.configured_so.read.quiet
  reads_stay (Err trouble.Read) came may = absurd may
  reads_stay (Err (trouble.Config key)) came may = came.quiet
  reads_stay (Err trouble.Begin) came may = absurd may
  reads_stay (Err trouble.Memory) came may = came.quiet
  reads_stay (Err (trouble.Ended fault.Receive)) came may = absurd may
  reads_stay (Err (trouble.Ended fault.Store)) came may = absurd may
  reads_stay (Err (trouble.Ended (fault.Refused why))) came may = came.configured_so.read.quiet
  reads_stay (Err (trouble.Ended fault.Memory)) came may = came.configured_so.read.quiet

  -- and where the error stream wanted memory for the line of a trouble none did, unless that is the trouble
  reads_told : (t : Trouble) → CameTo w r (Err t) → GainedPrefix r.streams.before.err.written r.streams.after.err.written (line_of t)
      → Rose r.streams.before.err.wants r.streams.after.err.wants
      → (r.streams.after.input.faults ≡ r.streams.before.input.faults) ⊎ WantedAtRead w r
  reads_told trouble.Read came front rose = inr (record { came = came; front = front; rose = rose })
  reads_told (trouble.Config key) came front rose = inl came.quiet
  reads_told trouble.Begin came front rose = inl came.configured_so.read.quiet
  reads_told trouble.Memory came front rose = inl came.quiet
  reads_told (trouble.Ended e) came front rose = inl came.configured_so.read.quiet

  out_unfailed : WroteTurnsAtMost w r → r.streams.after.out.faults ≡ r.streams.before.out.faults
  out_unfailed (inl same) = ap (λ (k : SinkSeen). k.faults) same
  out_unfailed (inr wanted) = wanted.1.unfailed

module _ (w : NodeWordsView) (r : NodeRun) (result : ℕ) where
  saying : (line : List ℕ) → MaySay w r line → GainedPrefix r.streams.before.err.written r.streams.after.err.written line
      → WroteTurnsAtMost w r → WasSaying w r
  saying line may front out = record { line = line; may = may; front = front; out = out }

  -- that memory was wanted is said, or not
  said_memory : WantsMemory w r → WroteTurnsAtMost w r → Said 8 memory_line r.streams.before.err r.streams.after.err result → Ending w r result
  said_memory wants out (inl whole) =
      Wanted (record {
        said = inl (record { came = wants; err = whole.1; unwanted = whole.2.wants; out = out });
        reads = inl (reads_stay w r wants.0 wants.1 wants.2);
        out = out_unfailed w r out;
        err = whole.2.faults;
      }) whole.0
  said_memory wants out (inr (inl failed)) =
      Failed (inr (record { saying = saying memory_line (inr (wants, refl)) failed.1 out; rose = failed.2; unwanted = failed.3 })) failed.0
  said_memory wants out (inr (inr wanted)) =
      Wanted (record {
        said = inr (record { saying = saying memory_line (inr (wants, refl)) wanted.1 out; rose = wanted.3 });
        reads = inl (reads_stay w r wants.0 wants.1 wants.2);
        out = out_unfailed w r out;
        err = wanted.2;
      }) wanted.0

  -- the line of the trouble that came is said, or not
  said_line : (t : Trouble) → CameTo w r (Err t) → r.streams.after.out ≡ r.streams.before.out
      → Said (status_of t) (line_of t) r.streams.before.err r.streams.after.err result → Ending w r result
  said_line t came same (inl whole) = Ended t (record { came = came; out = same; err = whole.1; quiet = whole.2 }) whole.0
  said_line t came same (inr (inl failed)) =
      Failed (inr (record { saying = saying (line_of t) (inl (t, came, refl)) failed.1 (inl same); rose = failed.2; unwanted = failed.3 })) failed.0
  said_line t came same (inr (inr wanted)) =
      Wanted (record {
        said = inr (record { saying = saying (line_of t) (inl (t, came, refl)) wanted.1 (inl same); rose = wanted.3 });
        reads = reads_told w r t came wanted.1 wanted.3;
        out = out_unfailed w r (inl same);
        err = wanted.2;
      }) wanted.0

  -- or, where it could not be made, that memory is wanted
  made_line : (t : Trouble) → MaySayMemory (Err t) → CameTo w r (Err t) → r.streams.after.out ≡ r.streams.before.out
      → Tells (status_of t) (line_of t) r.streams.before.err r.streams.after.err result → Ending w r result
  made_line t may came same (inl said) = said_line t came same said
  made_line t may came same (inr said) = said_memory (Err t, came, may) (inl same) said

  told : (t : Trouble) → CameTo w r (Err t) → r.streams.after.out ≡ r.streams.before.out
      → TellsLine t r.streams.before.err r.streams.after.err result → Ending w r result
  told trouble.Read came same tells = said_line trouble.Read came same tells
  told (trouble.Config key) came same tells = made_line (trouble.Config key) tt came same tells
  told trouble.Begin came same tells = said_line trouble.Begin came same tells
  told trouble.Memory came same tells = said_line trouble.Memory came same tells
  told (trouble.Ended fault.Receive) came same tells = said_line (trouble.Ended fault.Receive) came same tells
  told (trouble.Ended fault.Store) came same tells = said_line (trouble.Ended fault.Store) came same tells
  told (trouble.Ended (fault.Refused why)) came same tells = made_line (trouble.Ended (fault.Refused why)) tt came same tells
  told (trouble.Ended fault.Memory) came same tells = said_line (trouble.Ended fault.Memory) came same tells

  wrote_at_most : CameTo w r (Ok tt) → (r.streams.after.out ≡ r.streams.before.out) ⊎ OutWanted w.turns r.streams.before.out r.streams.after.out
      → WroteTurnsAtMost w r
  wrote_at_most came (inl same) = inl same
  wrote_at_most came (inr wanted) = inr (came, wanted)

  finished : CameTo w r (Ok tt) → TellsTurns w.turns r.streams.before.out r.streams.after.out r.streams.before.err r.streams.after.err result → Ending w r result
  finished came (inl wrote) = Finished (record { served = came; out = wrote.out_is; err = wrote.err_is; quiet = wrote.counts }) wrote.status
  finished came (inr (inl failed)) =
      Failed (inl (record { served = came; front = failed.out_is; rose = failed.rose; unwanted = failed.unwanted; err = failed.err_is })) failed.status
  finished came (inr (inr wanted)) = said_memory (Ok tt, came, tt) (wrote_at_most came wanted.out_is) wanted.said

  ending_of : (came : Result (Unit {0}) Trouble) → CameTo w r came
      → TellsWhat w.turns came r.streams.before.out r.streams.after.out r.streams.before.err r.streams.after.err result → Ending w r result
  ending_of (Ok tt) came tells = finished came tells
  ending_of (Err t) came tells = told t came tells.out_is tells.told

  pub ending : Ends w r result → Ending w r result
  ending e = ending_of e.came e.comes e.tells

-- ---- by status

status_is : (t : Trouble) → IsNodeStatus (status_of t)
status_is trouble.Read = inr (inr (inl refl))
status_is (trouble.Config key) = inr (inl refl)
status_is trouble.Begin = inr (inr (inr (inr (inl refl))))
status_is trouble.Memory = inr (inr (inr (inr (inr (inr (inl refl))))))
status_is (trouble.Ended fault.Receive) = inr (inr (inr (inr (inl refl))))
status_is (trouble.Ended fault.Store) = inr (inr (inr (inr (inr (inl refl)))))
status_is (trouble.Ended (fault.Refused why)) = inr (inr (inr (inr (inr (inr (inr refl))))))
status_is (trouble.Ended fault.Memory) = inr (inr (inr (inr (inr (inr (inl refl))))))

module _ (w : NodeWordsView) (r : NodeRun) where
  no_zero : (t : Trouble) → status_of t ≡ 0 → ⊥
  no_zero trouble.Read e = omega (arith, e)
  no_zero (trouble.Config key) e = omega (arith, e)
  no_zero trouble.Begin e = omega (arith, e)
  no_zero trouble.Memory e = omega (arith, e)
  no_zero (trouble.Ended fault.Receive) e = omega (arith, e)
  no_zero (trouble.Ended fault.Store) e = omega (arith, e)
  no_zero (trouble.Ended (fault.Refused why)) e = omega (arith, e)
  no_zero (trouble.Ended fault.Memory) e = omega (arith, e)

  no_five : (t : Trouble) → status_of t ≡ 5 → ⊥
  no_five trouble.Read e = omega (arith, e)
  no_five (trouble.Config key) e = omega (arith, e)
  no_five trouble.Begin e = omega (arith, e)
  no_five trouble.Memory e = omega (arith, e)
  no_five (trouble.Ended fault.Receive) e = omega (arith, e)
  no_five (trouble.Ended fault.Store) e = omega (arith, e)
  no_five (trouble.Ended (fault.Refused why)) e = omega (arith, e)
  no_five (trouble.Ended fault.Memory) e = omega (arith, e)

  by_three : (t : Trouble) → EndsBy w r t → status_of t ≡ 3 → IsConfigRefused w r
  by_three trouble.Read x e = absurd (omega (arith, e))
  by_three (trouble.Config key) x e = (key, x)
  by_three trouble.Begin x e = absurd (omega (arith, e))
  by_three trouble.Memory x e = absurd (omega (arith, e))
  by_three (trouble.Ended fault.Receive) x e = absurd (omega (arith, e))
  by_three (trouble.Ended fault.Store) x e = absurd (omega (arith, e))
  by_three (trouble.Ended (fault.Refused why)) x e = absurd (omega (arith, e))
  by_three (trouble.Ended fault.Memory) x e = absurd (omega (arith, e))

  by_four : (t : Trouble) → EndsBy w r t → status_of t ≡ 4 → EndsBy w r trouble.Read
  by_four trouble.Read x e = x
  by_four (trouble.Config key) x e = absurd (omega (arith, e))
  by_four trouble.Begin x e = absurd (omega (arith, e))
  by_four trouble.Memory x e = absurd (omega (arith, e))
  by_four (trouble.Ended fault.Receive) x e = absurd (omega (arith, e))
  by_four (trouble.Ended fault.Store) x e = absurd (omega (arith, e))
  by_four (trouble.Ended (fault.Refused why)) x e = absurd (omega (arith, e))
  by_four (trouble.Ended fault.Memory) x e = absurd (omega (arith, e))

  by_six : (t : Trouble) → EndsBy w r t → status_of t ≡ 6 → HasListeningFailed w r
  by_six trouble.Read x e = absurd (omega (arith, e))
  by_six (trouble.Config key) x e = absurd (omega (arith, e))
  by_six trouble.Begin x e = inl x
  by_six trouble.Memory x e = absurd (omega (arith, e))
  by_six (trouble.Ended fault.Receive) x e = inr x
  by_six (trouble.Ended fault.Store) x e = absurd (omega (arith, e))
  by_six (trouble.Ended (fault.Refused why)) x e = absurd (omega (arith, e))
  by_six (trouble.Ended fault.Memory) x e = absurd (omega (arith, e))

  by_seven : (t : Trouble) → EndsBy w r t → status_of t ≡ 7 → EndsBy w r (trouble.Ended fault.Store)
  by_seven trouble.Read x e = absurd (omega (arith, e))
  by_seven (trouble.Config key) x e = absurd (omega (arith, e))
  by_seven trouble.Begin x e = absurd (omega (arith, e))
  by_seven trouble.Memory x e = absurd (omega (arith, e))
  by_seven (trouble.Ended fault.Receive) x e = absurd (omega (arith, e))
  by_seven (trouble.Ended fault.Store) x e = x
  by_seven (trouble.Ended (fault.Refused why)) x e = absurd (omega (arith, e))
  by_seven (trouble.Ended fault.Memory) x e = absurd (omega (arith, e))

  by_nine : (t : Trouble) → EndsBy w r t → status_of t ≡ 9 → AreAreasRefused w r
  by_nine trouble.Read x e = absurd (omega (arith, e))
  by_nine (trouble.Config key) x e = absurd (omega (arith, e))
  by_nine trouble.Begin x e = absurd (omega (arith, e))
  by_nine trouble.Memory x e = absurd (omega (arith, e))
  by_nine (trouble.Ended fault.Receive) x e = absurd (omega (arith, e))
  by_nine (trouble.Ended fault.Store) x e = absurd (omega (arith, e))
  by_nine (trouble.Ended (fault.Refused why)) x e = (why, x)
  by_nine (trouble.Ended fault.Memory) x e = absurd (omega (arith, e))

  said_whole : (t : Trouble) → MaySayMemory (Err t) → line_of t ≡ memory_line → EndsBy w r t → IsOutOfMemory w r
  said_whole t may line x = record {
    said = inl (record {
      came = (Err t, x.came, may);
      err = subst (λ line. Gained r.streams.before.err.written r.streams.after.err.written line) line x.err;
      unwanted = x.quiet.wants;
      out = inl x.out;
    });
    reads = inl (reads_stay w r (Err t) x.came may);
    out = ap (λ (k : SinkSeen). k.faults) x.out;
    err = x.quiet.faults;
  }

  by_eight : (t : Trouble) → EndsBy w r t → status_of t ≡ 8 → IsOutOfMemory w r
  by_eight trouble.Read x e = absurd (omega (arith, e))
  by_eight (trouble.Config key) x e = absurd (omega (arith, e))
  by_eight trouble.Begin x e = absurd (omega (arith, e))
  by_eight trouble.Memory x e = said_whole trouble.Memory tt refl x
  by_eight (trouble.Ended fault.Receive) x e = absurd (omega (arith, e))
  by_eight (trouble.Ended fault.Store) x e = absurd (omega (arith, e))
  by_eight (trouble.Ended (fault.Refused why)) x e = absurd (omega (arith, e))
  by_eight (trouble.Ended fault.Memory) x e = said_whole (trouble.Ended fault.Memory) tt refl x

module _ (w : NodeWordsView) (r : NodeRun) (result : ℕ) where
  is_status : Ending w r result → IsNodeStatus result
  is_status (Finished x e) = inl e
  is_status (Ended t x e) = subst IsNodeStatus (sym e) (status_is t)
  is_status (Failed x e) = inr (inr (inr (inl e)))
  is_status (Wanted x e) = inr (inr (inr (inr (inr (inr (inl e))))))

  is_done : Ending w r result → result ≡ 0 → IsDone w r
  is_done (Finished x e) is = x
  is_done (Ended t x e) is = absurd (no_zero w r t (sym e ∙ is))
  is_done (Failed x e) is = absurd (omega (arith, e, is))
  is_done (Wanted x e) is = absurd (omega (arith, e, is))

  is_refused : Ending w r result → result ≡ 3 → IsConfigRefused w r
  is_refused (Finished x e) is = absurd (omega (arith, e, is))
  is_refused (Ended t x e) is = by_three w r t x (sym e ∙ is)
  is_refused (Failed x e) is = absurd (omega (arith, e, is))
  is_refused (Wanted x e) is = absurd (omega (arith, e, is))

  is_unread : Ending w r result → result ≡ 4 → EndsBy w r trouble.Read
  is_unread (Finished x e) is = absurd (omega (arith, e, is))
  is_unread (Ended t x e) is = by_four w r t x (sym e ∙ is)
  is_unread (Failed x e) is = absurd (omega (arith, e, is))
  is_unread (Wanted x e) is = absurd (omega (arith, e, is))

  is_unwritten : Ending w r result → result ≡ 5 → HasWriteFailed w r
  is_unwritten (Finished x e) is = absurd (omega (arith, e, is))
  is_unwritten (Ended t x e) is = absurd (no_five w r t (sym e ∙ is))
  is_unwritten (Failed x e) is = x
  is_unwritten (Wanted x e) is = absurd (omega (arith, e, is))

  is_unheard : Ending w r result → result ≡ 6 → HasListeningFailed w r
  is_unheard (Finished x e) is = absurd (omega (arith, e, is))
  is_unheard (Ended t x e) is = by_six w r t x (sym e ∙ is)
  is_unheard (Failed x e) is = absurd (omega (arith, e, is))
  is_unheard (Wanted x e) is = absurd (omega (arith, e, is))

  is_unstored : Ending w r result → result ≡ 7 → EndsBy w r (trouble.Ended fault.Store)
  is_unstored (Finished x e) is = absurd (omega (arith, e, is))
  is_unstored (Ended t x e) is = by_seven w r t x (sym e ∙ is)
  is_unstored (Failed x e) is = absurd (omega (arith, e, is))
  is_unstored (Wanted x e) is = absurd (omega (arith, e, is))

  is_wanting : Ending w r result → result ≡ 8 → IsOutOfMemory w r
  is_wanting (Finished x e) is = absurd (omega (arith, e, is))
  is_wanting (Ended t x e) is = by_eight w r t x (sym e ∙ is)
  is_wanting (Failed x e) is = absurd (omega (arith, e, is))
  is_wanting (Wanted x e) is = x

  are_refused : Ending w r result → result ≡ 9 → AreAreasRefused w r
  are_refused (Finished x e) is = absurd (omega (arith, e, is))
  are_refused (Ended t x e) is = by_nine w r t x (sym e ∙ is)
  are_refused (Failed x e) is = absurd (omega (arith, e, is))
  are_refused (Wanted x e) is = absurd (omega (arith, e, is))

  pub has_status : Ends w r result → IsNodeStatus result
  has_status e = is_status (ending w r result e)

  pub has_done : Ends w r result → result ≡ 0 → IsDone w r
  has_done e is = is_done (ending w r result e) is

  pub has_refused : Ends w r result → result ≡ 3 → IsConfigRefused w r
  has_refused e is = is_refused (ending w r result e) is

  pub has_unread : Ends w r result → result ≡ 4 → EndsBy w r trouble.Read
  has_unread e is = is_unread (ending w r result e) is

  pub has_unwritten : Ends w r result → result ≡ 5 → HasWriteFailed w r
  has_unwritten e is = is_unwritten (ending w r result e) is

  pub has_unheard : Ends w r result → result ≡ 6 → HasListeningFailed w r
  has_unheard e is = is_unheard (ending w r result e) is

  pub has_unstored : Ends w r result → result ≡ 7 → EndsBy w r (trouble.Ended fault.Store)
  has_unstored e is = is_unstored (ending w r result e) is

  pub has_wanting : Ends w r result → result ≡ 8 → IsOutOfMemory w r
  has_wanting e is = is_wanting (ending w r result e) is

  pub have_refused : Ends w r result → result ≡ 9 → AreAreasRefused w r
  have_refused e is = are_refused (ending w r result e) is

  pub has_come : Ends w r result → HasCome w r
  has_come e = (e.came, e.comes)

-- memory was wanted before anything was done, and that is said
pub wanted_first : (w : NodeWordsView) (r : NodeRun) (result : ℕ) → r.after ≡ r.before → r.streams.after.input.faults ≡ r.streams.before.input.faults
    → r.streams.after.out ≡ r.streams.before.out → Said 8 memory_line r.streams.before.err r.streams.after.err result → KeepsCounts r.streams → Ends w r result
wanted_first w r result device input out said counts = record {
  came = Err trouble.Memory;
  comes = record { quiet = input; device_stays = device };
  tells = record { out_is = out; told = said };
  counts = counts;
}
