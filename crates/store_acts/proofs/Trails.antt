-- Acts one after another on areas of which it is known what stood at the last syncs.
use Rattle.std.proofs.Common.{◌≡◌, List, [], ◌∷◌, ◌++◌, length, take, refl, sym, ap, ◌∙◌, append_assoc, arith}
use Rattle.std.proofs.lemmas.List.{append-nil, length-append, take_at}
use Rattle.disk.specs.Acts.{Act}
use Rattle.disk.specs.Disk.{after}
use Rattle.disk.specs.Images.{Trail, follow, followed}
use Rattle.store_acts.specs.PendingAreas.{FirstDone}

pub followed_append : (trail : Trail) (acts more : List Act) → followed trail (acts ++ more) ≡ followed (followed trail acts) more
followed_append trail [] more = refl
followed_append trail (act ∷ acts) more = followed_append (follow act trail) acts more

pub disk_followed : (trail : Trail) (acts : List Act) → (followed trail acts).disk ≡ after trail.disk acts
disk_followed trail [] = refl
disk_followed trail (act ∷ acts) = disk_followed (follow act trail) acts

-- areas after a first part of the acts, of which these are left
pub record PartDone (old : Trail) (acts : List Act) (now : Trail) (left : List Act) : Type 0 where
  pub done : List Act
  pub parts : acts ≡ done ++ left
  pub reached : now ≡ followed old done

pub none_done : (old : Trail) (acts : List Act) → PartDone old acts old acts
none_done old acts = record { done = []; parts = refl; reached = refl }

pub one_more_done : (old : Trail) (acts : List Act) (now : Trail) (act : Act) (left : List Act) (next : Trail) → next ≡ follow act now →
    PartDone old acts now (act ∷ left) → PartDone old acts next left
one_more_done old acts now act left next is part = record {
  done = part.done ++ act ∷ [];
  parts = part.parts ∙ sym (append_assoc part.done (act ∷ []) left);
  reached = is ∙ (ap (follow act) part.reached ∙ sym (followed_append old part.done (act ∷ [])));
}

pub all_done : (old : Trail) (acts : List Act) (now : Trail) → PartDone old acts now [] → now ≡ followed old acts
all_done old acts now part = part.reached ∙ ap (followed old) (sym (append-nil part.done) ∙ sym part.parts)

pub stopped_before : (old : Trail) (acts : List Act) (now : Trail) (act : Act) (left : List Act) → PartDone old acts now (act ∷ left) → FirstDone old acts now
stopped_before old acts now act left part =
    let size = ap length part.parts ∙ length-append part.done (act ∷ left) in (
      length part.done,
      omega (arith, size),
      part.reached ∙ ap (followed old) (sym (take_at part.done (act ∷ left) (length part.done) refl) ∙ ap (take (length part.done)) (sym part.parts)),
    )
