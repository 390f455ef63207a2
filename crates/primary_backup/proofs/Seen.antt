-- What clients may see of primary-backup from a world on, by what they see first.
use Rattle.std.proofs.Common.{◌≡◌, ◌⊎◌, ℕ, suc, ◌+◌, ◌<◌, List, [], ◌∷◌, ◌++◌, map, take, length, refl, ap, sym, subst, arith, append_assoc, length-append}
use Rattle.vst_base.specs.Machines.{MachineMeaning, state_after, outputs_from}
use Rattle.vst_base.specs.declared.pb_out.PbOut.{PbOut}
use Rattle.vst_base.specs.declared.pb_out.PbOut.TheVariants as told
use Rattle.vst_base.specs.declared.step.Item.{Item}
use Rattle.vst_base.specs.declared.step.Item.TheVariants as item
use Rattle.net_semantics.specs.BelowPb.{inputs_at, outputs_at, IsExplainedBy, RedirectsAtOnce, Redirects, OnlyRedirects}
use Rattle.primary_backup.specs.Backup.{Backed}
use Rattle.primary_backup.specs.Followed.{replies, AreFollowing}

pub no_cut : {X : Type 0} (before after : List X) (x : X) → [] ≡ before ++ x ∷ after → ⊥
no_cut [] after x e = cc
no_cut (y ∷ ys) after x e = cc

not_one : (n : ℕ) → n ≡ 0 → n ≡ 1 → ⊥
not_one n e f = omega arith

module _ {C O : Type 0} where
  -- each output of the primary stands after the input that it answers, where so many inputs stand before all of these
  abbrev StandsBehind : ℕ → List (Item C (PbOut O)) → Type 0
  StandsBehind n items = (before after : List (Item C (PbOut O))) (o : PbOut O) → items ≡ before ++ item.Output 0 o ∷ after → length (outputs_at 0 before) < n + length (inputs_at 0 before)

  -- one more item, which is none of the backup's
  redirected_past : (x : Item C (PbOut O)) (later : List (Item C (PbOut O))) → ((c : C) → x ≡ item.Input 1 c → ⊥) → RedirectsAtOnce later → RedirectsAtOnce (x ∷ later)
  redirected_past x later other h [] after c e = let f : x ≡ item.Input 1 c = cc in absurd (other c f)
  redirected_past x later other h (y ∷ ys) after c e = let f : later ≡ ys ++ item.Input 1 c ∷ after = cc in h ys after c f

  redirects_past : (x : Item C (PbOut O)) (before : List (Item C (PbOut O))) (o : PbOut O) → Redirects before o → Redirects (x ∷ before) o
  redirects_past x before o h = record { front = x ∷ h.front; input = h.input; last_is = ap (λ zs. x ∷ zs) h.last_is; redirect = h.redirect }

  nothing_past : (x : Item C (PbOut O)) (later : List (Item C (PbOut O))) → ((o : PbOut O) → x ≡ item.Output 1 o → ⊥) → OnlyRedirects later → OnlyRedirects (x ∷ later)
  nothing_past x later other h [] after o e = let f : x ≡ item.Output 1 o = cc in absurd (other o f)
  nothing_past x later other h (y ∷ ys) after o e =
      let f : later ≡ ys ++ item.Output 1 o ∷ after = cc in
      redirects_past y ys o (h ys after o f)

  -- an input that is redirected
  redirected_at_once : (c : C) (later : List (Item C (PbOut O))) → RedirectsAtOnce later → RedirectsAtOnce (item.Input 1 c ∷ item.Output 1 told.Redirect ∷ later)
  redirected_at_once c later h [] after d e = let f : after ≡ item.Output 1 told.Redirect ∷ later = cc in (later, f)
  redirected_at_once c later h (y ∷ ys) after d e =
      let f : item.Output 1 told.Redirect ∷ later ≡ ys ++ item.Input 1 d ∷ after = cc in
      redirected_past (item.Output 1 told.Redirect) later (λ i g. cc) h ys after d f

  nothing_but_redirect : (c : C) (later : List (Item C (PbOut O))) → OnlyRedirects later → OnlyRedirects (item.Input 1 c ∷ item.Output 1 told.Redirect ∷ later)
  nothing_but_redirect c later h [] after o e = cc
  nothing_but_redirect c later h (y ∷ []) after o e =
      let f : y ≡ item.Input 1 c = cc in
      let g : o ≡ told.Redirect = cc in
      record { front = []; input = c; last_is = ap (λ z. z ∷ []) f; redirect = g }
  nothing_but_redirect c later h (y ∷ z ∷ zs) after o e =
      let f : later ≡ zs ++ item.Output 1 o ∷ after = cc in
      redirects_past y (z ∷ zs) o (redirects_past z zs o (h zs after o f))

  -- outputs of the primary after an input there, an output there and an input at the backup
  after_input : (n k : ℕ) (c : C) (later : List (Item C (PbOut O))) → k ≡ suc n → StandsBehind k later → StandsBehind n (item.Input 0 c ∷ later)
  after_input n k c later e h [] after o e2 = cc
  after_input n k c later e h (y ∷ ys) after o e2 =
      let f : later ≡ ys ++ item.Output 0 o ∷ after = cc in
      let g : y ≡ item.Input 0 c = cc in
      let old = h ys after o f in
      subst (λ (x : Item C (PbOut O)). length (outputs_at 0 (x ∷ ys)) < n + length (inputs_at 0 (x ∷ ys))) (sym g) (omega arith)

  behind_output : (n : ℕ) (told : PbOut O) (later : List (Item C (PbOut O))) → StandsBehind n later → StandsBehind (suc n) (item.Output 0 told ∷ later)
  behind_output n told later h [] after o e = omega arith
  behind_output n told later h (y ∷ ys) after o e =
      let f : later ≡ ys ++ item.Output 0 o ∷ after = cc in
      let g : y ≡ item.Output 0 told = cc in
      let old = h ys after o f in
      subst (λ (x : Item C (PbOut O)). length (outputs_at 0 (x ∷ ys)) < suc n + length (inputs_at 0 (x ∷ ys))) (sym g) (omega arith)

  behind_redirect : (n : ℕ) (c : C) (later : List (Item C (PbOut O))) → StandsBehind n later → StandsBehind n (item.Input 1 c ∷ item.Output 1 told.Redirect ∷ later)
  behind_redirect n c later h [] after o e = cc
  behind_redirect n c later h (y ∷ []) after o e = absurd (not_one 0 refl cc)
  behind_redirect n c later h (y ∷ z ∷ zs) after o e =
      let f : later ≡ zs ++ item.Output 0 o ∷ after = cc in
      let g : y ≡ item.Input 1 c = cc in
      let j : z ≡ item.Output 1 told.Redirect = cc in
      let old = h zs after o f in
      subst (λ (x : Item C (PbOut O)). length (outputs_at 0 (x ∷ z ∷ zs)) < n + length (inputs_at 0 (x ∷ z ∷ zs))) (sym g)
      (subst (λ (x : Item C (PbOut O)). length (outputs_at 0 (x ∷ zs)) < n + length (inputs_at 0 (x ∷ zs))) (sym j) old)

module _ {S C O : Type 0} (m : MachineMeaning S C O) where
  -- from where the primary's machine is in state s and these requests are pending: what clients see later, and the machines of both
  -- nodes in the end
  pub record MaySee (s : S) (pending : List C) (later : List (Item C (PbOut O))) (p b : S) : Type 0 where
    pub outputs : outputs_at 0 later ≡ map told.Reply (outputs_from m s (take (replies later) (pending ++ inputs_at 0 later)))
    pub behind : StandsBehind (length pending) later
    pub redirected : RedirectsAtOnce later
    pub nothing_else : OnlyRedirects later
    pub primary : p ≡ state_after m s (take (replies later) (pending ++ inputs_at 0 later))
    pub backup : (b ≡ state_after m s (take (replies later) (pending ++ inputs_at 0 later))) ⊎ (b ≡ state_after m s (take (suc (replies later)) (pending ++ inputs_at 0 later)))

  pub see_input : (s : S) (pending : List C) (c : C) (later : List (Item C (PbOut O))) (p b : S) → MaySee s (pending ++ c ∷ []) later p b → MaySee s pending (item.Input 0 c ∷ later) p b
  see_input s pending c later p b h =
      let same : (pending ++ c ∷ []) ++ inputs_at 0 later ≡ pending ++ c ∷ inputs_at 0 later = append_assoc pending (c ∷ []) (inputs_at 0 later) in
      let longer = length-append pending (c ∷ []) in
      record {
        outputs = subst (λ (cs : List C). outputs_at 0 later ≡ map told.Reply (outputs_from m s (take (replies later) cs))) same h.outputs;
        behind = after_input (length pending) (length (pending ++ c ∷ [])) c later (omega arith) h.behind;
        redirected = redirected_past (item.Input 0 c) later (λ d g. absurd (not_one 0 refl cc)) h.redirected;
        nothing_else = nothing_past (item.Input 0 c) later (λ o g. cc) h.nothing_else;
        primary = subst (λ (cs : List C). p ≡ state_after m s (take (replies later) cs)) same h.primary;
        backup = subst (λ (cs : List C). (b ≡ state_after m s (take (replies later) cs)) ⊎ (b ≡ state_after m s (take (suc (replies later)) cs))) same h.backup;
      }

  pub see_reply : (s : S) (c : C) (pending : List C) (later : List (Item C (PbOut O))) (p b : S) → MaySee (m.apply s c).0 pending later p b
      → MaySee s (c ∷ pending) (item.Output 0 (told.Reply (m.apply s c).1) ∷ later) p b
  see_reply s c pending later p b h = record {
    outputs = ap (λ (os : List (PbOut O)). told.Reply (m.apply s c).1 ∷ os) h.outputs;
    behind = behind_output (length pending) (told.Reply (m.apply s c).1) later h.behind;
    redirected = redirected_past (item.Output 0 (told.Reply (m.apply s c).1)) later (λ d g. cc) h.redirected;
    nothing_else = nothing_past (item.Output 0 (told.Reply (m.apply s c).1)) later (λ o g. absurd (not_one 0 refl cc)) h.nothing_else;
    primary = h.primary;
    backup = h.backup;
  }

  pub see_redirect : (s : S) (pending : List C) (c : C) (later : List (Item C (PbOut O))) (p b : S) → MaySee s pending later p b
      → MaySee s pending (item.Input 1 c ∷ item.Output 1 told.Redirect ∷ later) p b
  see_redirect s pending c later p b h = record {
    outputs = h.outputs;
    behind = behind_redirect (length pending) c later h.behind;
    redirected = redirected_at_once c later h.redirected;
    nothing_else = nothing_but_redirect c later h.nothing_else;
    primary = h.primary;
    backup = h.backup;
  }

  -- nothing is seen
  pub see_nothing : (s : S) (pending : List C) (b : S) → (b ≡ s) ⊎ (b ≡ state_after m s (take 1 (pending ++ []))) → MaySee s pending [] s b
  see_nothing s pending b h = record {
    outputs = refl;
    behind = λ before after o e. absurd (no_cut before after (item.Output 0 o) e);
    redirected = λ before after c e. absurd (no_cut before after (item.Input 1 c) e);
    nothing_else = λ before after o e. absurd (no_cut before after (item.Output 1 o) e);
    primary = refl;
    backup = h;
  }

  -- the plain form
  pub explained : (items : List (Item C (PbOut O))) (p b : S) → MaySee m.init [] items p b → IsExplainedBy m items
  explained items p b h = record {
    outputs = h.outputs;
    answers = λ before after o e. let f = h.behind before after o e in omega arith;
    redirected = h.redirected;
    nothing_else = h.nothing_else;
  }

  pub following : (items : List (Item C (PbOut O))) (nodes : ℕ → Backed S C) → MaySee m.init [] items (nodes 0).machine (nodes 1).machine → AreFollowing m items nodes
  following items nodes h = record { primary = h.primary; backup = h.backup }
