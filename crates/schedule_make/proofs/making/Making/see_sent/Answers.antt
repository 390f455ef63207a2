use Rattle.std.proofs.Common.{◌≡◌, ◌+◌, ◌++◌, ◌∷◌, ◌≤◌, [], List, ℕ, Option, None, Some, length, true, refl, sym, ap, subst, ◌∙◌, arith, length-append}
use Rattle.std.specs.Prelude.{IfSome, ltb}
use Rattle.std.specs.Option.{option_map}
use Rattle.std.specs.List.{list_all}
use Rattle.std.proofs.lemmas.Bool.{and_from, lt-ltb}
use Rattle.std.proofs.lemmas.List.Folds.{list_all-append}
use Rattle.flight_index.specs.Flights.{is_within}
use Rattle.net_semantics.specs.Worlds.{ends}
use Rattle.vst_base.specs.declared.step.Step.{Step}
use Rattle.xform_stack.specs.Systems.{world_of}
use Rattle.schedule_make.specs.Making.{MakingView}
use Rattle.schedule_make.proofs.Following.{has-ends, next-flight}
use Rattle.schedule_make.proofs.InTurn.{joined}
use Rattle.schedule_make.proofs.making.Making.see_sent.Goals as goal
use Rattle.schedule_make.proofs.making.Making.see_sent.Goals.{in-Some+in_ok-sent+in_ok-join, in_default}

-- one more
more-many : (o : Option (List (Option (ℕ × ℕ)))) (e : ℕ × ℕ) (k : ℕ) → IfSome o (λ ws. length ws ≡ k)
    → IfSome (option_map (λ ws. ws ++ Some e ∷ []) o) (λ ws. length ws ≡ k + 1)
more-many None e k h = tt
more-many (Some ws) e k h = length-append ws (Some e ∷ []) ∙ ap (λ n. n + 1) h

pub loop-k-preserved : goal.loop-k-preserved
loop-k-preserved g c =
    let r = g.W.Network in
    let inv = c.loop-k.invariant in
    let run0 = c.self.inside.network in
    let old = c.loop-k.self-inside.flights.packets in
    let same = inv.network in
    let here : (ss : List (Step g.row.H-Input.Denot)) → r.follows run0 ss → c.ends.result ≡ ends (world_of (r.system run0) ss) c.loop-k.k =
    λ ss follows. c.ends.ensures.ends ss (subst (λ v. r.follows v ss) (sym same) follows)
    ∙ ap (λ v. ends (world_of (r.system v) ss) c.loop-k.k) same in
    let ss0 = c.requires.followed.steps in
    let follows0 : r.follows run0 ss0 = subst (λ (v : MakingView g.row.W.Denot). r.follows v.network ss0) (sym c.self.view_is) c.requires.followed.followed in
    let sound0 : r.sound run0 = subst (λ (v : MakingView g.row.W.Denot). r.sound v.network) (sym c.self.view_is) c.requires.sound in
    let nodes0 : (r.system run0).meaning.nodes ≤ 9 = subst (λ (v : MakingView g.row.W.Denot). (r.system v.network).meaning.nodes ≤ 9) (sym c.self.view_is) c.requires.nodes in
    elim c.match-ends.branch [
      | in-Some+in_ok-sent+in_ok-join w ↦
          let to : ℕ = w.in-Some.ends.1 in
          let pushed : c.match-ends.self-inside.flights.packets ≡ old ++ Some to ∷ [] = ap (λ v. v.flights.packets) w.self-inside-is ∙ w.in_ok-sent.ensures.ok in
          let turned : c.match-ends.self-inside.turns ≡ option_map (λ ws. ws ++ Some w.in-Some.ends ∷ []) c.loop-k.self-inside.turns =
          ap (λ v. v.turns) w.self-inside-is ∙ w.in_ok-join.ensures in
          let below = w.in-Some.ensures.below ss0 (subst (λ v. r.follows v ss0) (sym same) follows0) (subst r.sound (sym same) sound0) in
          let small : (r.system c.loop-k.self-inside.network).meaning.nodes ≤ 9 = subst (λ v. (r.system v).meaning.nodes ≤ 9) (sym same) nodes0 in
          record {
            number = ap length pushed ∙ length-append old (Some to ∷ []) ∙ ap (λ n. n + 1) inv.number;
            packets = λ ss follows fly was.
                let ps = (world_of (r.system run0) ss).packets in
                pushed ∙ ap (λ os. os ++ Some to ∷ []) (inv.packets ss follows fly was)
                ∙ sym (next-flight ps c.args.before c.loop-k.k w.in-Some.ends.0 to c.loop-k.auto.k fly (sym (here ss follows) ∙ w.in-Some.is));
            many = subst (λ (o : Option (List (Option (ℕ × ℕ)))). IfSome o (λ ws. length ws ≡ c.loop-k.k + 1)) (sym turned) (more-many c.loop-k.self-inside.turns w.in-Some.ends c.loop-k.k inv.many);
            turns = λ n ss follows fly was.
                turned ∙ ap (option_map (λ ws. ws ++ Some w.in-Some.ends ∷ [])) (inv.turns n ss follows fly was)
                ∙ joined n (world_of (r.system run0) ss).packets c.args.before c.loop-k.k w.in-Some.ends c.loop-k.auto.k fly (sym (here ss follows) ∙ w.in-Some.is);
            within = λ was.
                ap (list_all is_within) pushed ∙ list_all-append is_within old (Some to ∷ [])
                ∙ and_from (list_all is_within old) (list_all is_within (Some to ∷ [])) (inv.within was) (and_from (ltb to 9) true (lt-ltb to 9 (omega (arith, below, small))) refl);
            up = ap (λ v. v.flights.up) w.self-inside-is ∙ w.in_ok-sent.ensures.up ∙ inv.up;
            network = ap (λ v. v.network) w.self-inside-is ∙ same;
            random = ap (λ v. v.random) w.self-inside-is ∙ inv.random;
          }
      | in_default w ↦
          let there = has-ends (world_of (r.system run0) ss0).packets c.loop-k.k (omega (arith, c.loop-k-test.true, c.sent-k-end.ensures ss0 follows0)) in
          absurd (w.in_default.not-Some there.0 (here ss0 follows0 ∙ there.1))
    ]
