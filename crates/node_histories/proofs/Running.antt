-- What happens, one happening after the other, as a run.
use Rattle.std.proofs.Common.{◌≡◌, ℕ, zero, suc, ◌<◌, List, [], ◌∷◌, ◌++◌, length, None, refl, sym, ap, ◌∙◌, subst, append_assoc}
use Rattle.std.proofs.lemmas.List.{append-nil}
use Rattle.handler_trait.specs.Handling.{Meaning, Recovery}
use Rattle.net_semantics.specs.RunLaws.{first_refused_from-append, later, run_from-append, trace_from-append}
use Rattle.net_semantics.specs.Runs.{first_refused_from, run_from, trace_from}
use Rattle.net_semantics.specs.Steps.{next}
use Rattle.net_semantics.specs.Worlds.{World, first_world}
use Rattle.vst_base.specs.declared.net.Net.TheVariants as net
use Rattle.vst_base.specs.declared.step.Item.{Item}
use Rattle.vst_base.specs.declared.step.Step.{Step}
use Rattle.node_histories.specs.Histories.{AreAtNodes, History, MayBeAt, MayHappen, NothingForged_since, items_of, items_of_one, items_since, world_of}
use Rattle.node_histories.specs.HistoryLaws.{GoesOn, HasRun, HistoriesAreRuns, RunsAs, RunsGoOn, happens_in, history_from}
use Rattle.node_histories.proofs.Adding.{items_since-append, nothing_forged_rest}
use Rattle.node_histories.proofs.Lists.{each_rest}
use Rattle.node_histories.proofs.Stepping.{Leads, Reaches, happening_leads}
use Rattle.lists.specs.Each.{Each}

later-none : (n : ℕ) → later n None ≡ None
later-none zero = refl
later-none (suc n) = let e = later-none n in rw e refl

module _ {S K I O M : Type 0} (m : Meaning S I O M) (r : Recovery S K) where
  -- steps that the network allows after steps that it allows
  both_allowed : (w : World S K M) (ss ts : List (Step I)) → first_refused_from net.Fail m r w ss ≡ None
      → first_refused_from net.Fail m r (run_from m r w ss) ts ≡ None → first_refused_from net.Fail m r w (ss ++ ts) ≡ None
  both_allowed w ss ts a b = first_refused_from-append m r net.Fail w ss ts a ∙ (ap (later (length ss)) b ∙ later-none (length ss))

  history_from-append : (w : World S K M) (ss ts : List (Step I)) → history_from m r w (ss ++ ts) ≡ history_from m r w ss ++ history_from m r (run_from m r w ss) ts
  history_from-append w [] ts = refl
  history_from-append w (s ∷ ss) ts = ap (λ hs. happens_in w s ++ hs) (history_from-append (next m r w s) ss ts)
      ∙ sym (append_assoc (happens_in w s) (history_from m r (next m r w s) ss) (history_from m r (run_from m r (next m r w s) ss) ts))

  leads_on : (w v u : World S K M) (hs ks : History I M) (xs ys : List (Item I O)) (ss ts : List (Step I)) → Leads m r w v hs xs ss → Leads m r v u ks ys ts
      → Leads m r w u (hs ++ ks) (xs ++ ys) (ss ++ ts)
  leads_on w v u hs ks xs ys ss ts a b =
      let there : run_from m r w ss ≡ v = a.comes_to in
      record {
        allowed = both_allowed w ss ts a.allowed (subst (λ x. first_refused_from net.Fail m r x ts ≡ None) (sym there) b.allowed);
        takes = history_from-append w ss ts ∙ (ap (λ zs. zs ++ history_from m r (run_from m r w ss) ts) a.takes ∙ ap (λ zs. hs ++ zs) (ap (λ x. history_from m r x ts) there ∙ b.takes));
        comes_to = run_from-append m r w ss ts ∙ (ap (λ x. run_from m r x ts) there ∙ b.comes_to);
        seen = trace_from-append m r w ss ts ∙ (ap (λ zs. zs ++ trace_from m r (run_from m r w ss) ts) a.seen ∙ ap (λ zs. xs ++ zs) (ap (λ x. trace_from m r x ts) there ∙ b.seen));
      }

  reaches_on : (w v u : World S K M) (hs ks : History I M) (xs ys : List (Item I O)) → Reaches m r w v hs xs → Reaches m r v u ks ys → Reaches m r w u (hs ++ ks) (xs ++ ys)
  reaches_on w v u hs ks xs ys a b = record { steps = a.steps ++ b.steps; leads = leads_on w v u hs ks xs ys a.steps b.steps a.leads b.leads }

  history_leads : (before late : History I M) → AreAtNodes m.nodes late → Each (λ h. MayBeAt m h.0 h.1) late → NothingForged_since m r before late
      → Reaches m r (world_of m r before) (world_of m r (before ++ late)) late (items_since m r before late)
  history_leads before [] at_nodes taken sent = record { steps = []; leads = record { allowed = refl; takes = refl; comes_to = ap (world_of m r) (sym (append-nil before)); seen = refl } }
  history_leads before (h ∷ hs) at_nodes taken sent =
      reaches_on (world_of m r before) (world_of m r (before ++ h ∷ [])) (world_of m r (before ++ h ∷ hs)) (h ∷ []) hs (items_of_one m r before h) (items_since m r (before ++ h ∷ []) hs)
      (happening_leads m r before h.0 h.1 at_nodes.0 taken.0 sent.0)
      (subst (λ zs. Reaches m r (world_of m r (before ++ h ∷ [])) (world_of m r zs) hs (items_since m r (before ++ h ∷ []) hs)) (append_assoc before (h ∷ []) hs)
      (history_leads (before ++ h ∷ []) hs at_nodes.1 taken.1 sent.1))

  go_on : (early late : History I M) (ss : List (Step I)) → MayHappen m r (early ++ late) → RunsAs m r early ss → GoesOn m r early late ss
  go_on early late ss may runs =
      let goes : Reaches m r (world_of m r early) (world_of m r (early ++ late)) late (items_since m r early late) =
      history_leads early late (each_rest (λ h. h.0 < m.nodes) early late may.at_nodes) (each_rest (λ h. MayBeAt m h.0 h.1) early late may.taken)
      (nothing_forged_rest m r [] early late may.nothing_forged) in
      let whole : Leads m r (first_world m) (world_of m r (early ++ late)) (early ++ late) (items_of m r early ++ items_since m r early late) (ss ++ goes.steps) =
      leads_on (first_world m) (world_of m r early) (world_of m r (early ++ late)) early late (items_of m r early) (items_since m r early late) ss goes.steps
      (record { allowed = runs.allowed; takes = runs.takes; comes_to = runs.comes_to; seen = runs.seen }) goes.leads in
      record {
        more = goes.steps;
        runs = record { allowed = whole.allowed; takes = whole.takes; comes_to = whole.comes_to; seen = whole.seen ∙ sym (items_since-append m r [] early late) };
      }

  nothing_runs : RunsAs m r [] []
  nothing_runs = record { allowed = refl; takes = refl; comes_to = refl; seen = refl }

  are_runs : (hs : History I M) → MayHappen m r hs → HasRun m r hs
  are_runs hs may = let goes : GoesOn m r [] hs [] = go_on [] hs [] may nothing_runs in record { steps = goes.more; runs = goes.runs }

pub histories_are_runs : (S K I O M : Type 0) → HistoriesAreRuns S K I O M
histories_are_runs S K I O M m r hs may = are_runs m r hs may

pub runs_go_on : (S K I O M : Type 0) → RunsGoOn S K I O M
runs_go_on S K I O M m r early late ss may runs = go_on m r early late ss may runs
