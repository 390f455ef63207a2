-- What the table has for a header, and for each stack on its own network.
use Rattle.std.specs.Prelude.{◌≡◌, ℕ, refl}
use Rattle.std.proofs.Common.{◌∙◌, ap, sym, subst}
use Rattle.vst_base.specs.Stacks.{row_of}
use Rattle.vst_base.specs.declared.net.Net.{Net}
use Rattle.vst_base.specs.declared.stack.StackId.{StackId}
use Rattle.schedule_text.specs.Headers.{IsBy}
use Rattle.schedule_text.specs.declared.header.Header.{Header}
use Rattle.stacks.specs.Claimed.{AnyClaims, claims, claims_on}
use Rattle.stacks.specs.Plays.{Found, Here, IfFound, Nowhere, found_map, AnyPlay}
use Rattle.stacks.specs.Kinds.{Clustered, Kind, Steady, plays}
use Rattle.stacks.specs.Made.{AnyMade, makes, makes_at}
use Rattle.stacks.specs.Stack.{AnyStack, stack, stack_at}
use Rattle.stacks.specs.Table.{kind_at, plays_at}

-- what is found is still found when it is mapped, and the other way round
pub mapped-found : {A B : Type 1} (x : Found A) (f : A → B) (P : B → Type 0) → IfFound x (λ a. P (f a)) → IfFound (found_map f x) P
mapped-found Nowhere f P none = none
mapped-found (Here a) f P has = has

pub found-mapped : {A B : Type 1} (x : Found A) (f : A → B) (P : B → Type 0) → IfFound (found_map f x) P → IfFound x (λ a. P (f a))
found-mapped Nowhere f P none = none
found-mapped (Here a) f P has = has

pub both-found : {A : Type 1} (x : Found A) (P Q : A → Type 0) → IfFound x P → IfFound x Q → IfFound x (λ a. P a × Q a)
both-found Nowhere P Q one two = one
both-found (Here a) P Q one two = (one, two)

pub weaker-found : {A : Type 1} (x : Found A) (P Q : A → Type 0) → ((a : A) → P a → Q a) → IfFound x P → IfFound x Q
weaker-found Nowhere P Q then none = none
weaker-found (Here a) P Q then has = then a has

-- what stands there for a header is what stands there for its stack on the stack's own network, and the other way round
pub of-header : (h : Header) (i : StackId) (P : Kind → Type 0) → IsBy (row_of h.stack) h → h.stack ≡ i → IfFound (kind_at (row_of i).net i) P → IfFound (kind_at h.net h.stack) P
of-header h i P by is there =
    let net : (row_of i).net ≡ h.net = ap (λ (s : StackId). (row_of s).net) (sym is) ∙ sym by.net in
    subst (λ (n : Net). IfFound (kind_at n h.stack) P) net (subst (λ (s : StackId). IfFound (kind_at (row_of i).net s) P) (sym is) there)

pub at-row : (h : Header) (i : StackId) (P : Kind → Type 0) → IsBy (row_of h.stack) h → h.stack ≡ i → IfFound (kind_at h.net h.stack) P → IfFound (kind_at (row_of i).net i) P
at-row h i P by is there =
    let net : h.net ≡ (row_of i).net = by.net ∙ ap (λ (s : StackId). (row_of s).net) is in
    subst (λ (n : Net). IfFound (kind_at n i) P) net (subst (λ (s : StackId). IfFound (kind_at h.net s) P) is there)

-- how a stack plays, how claims on it are read and judged, and the schedules that are made for it, as parts of the stack
abbrev pub claims_in : AnyStack → AnyClaims
claims_in a = record { plays = a.plays; claimed = a.claimed }

abbrev pub made_in : AnyStack → AnyMade
made_in a = record { plays = a.plays; made = a.made }

pub plays-of-stack : (k : Kind) (n : ℕ) → (stack k n).plays ≡ plays k n
plays-of-stack (Steady l) n = refl
plays-of-stack (Clustered k) n = refl

pub claims-of-stack : (k : Kind) (n : ℕ) → claims_in (stack k n) ≡ claims k n
claims-of-stack (Steady l) n = refl
claims-of-stack (Clustered k) n = refl

pub made-of-stack : (k : Kind) (n : ℕ) → made_in (stack k n) ≡ makes k n
made-of-stack (Steady l) n = refl
made-of-stack (Clustered k) n = refl

pub plays-of-claims : (k : Kind) (n : ℕ) → (claims k n).plays ≡ plays k n
plays-of-claims (Steady l) n = refl
plays-of-claims (Clustered k) n = refl

pub plays-of-made : (k : Kind) (n : ℕ) → (makes k n).plays ≡ plays k n
plays-of-made (Steady l) n = refl
plays-of-made (Clustered k) n = refl

-- where two maps give the same, what holds of the one holds of the other
module _ {A B : Type 1} (f g : A → B) (same : (a : A) → f a ≡ g a) where
  pub same-found : (x : Found A) (P : B → Type 0) → IfFound (found_map f x) P → IfFound (found_map g x) P
  same-found Nowhere P none = none
  same-found (Here a) P has = subst P (same a) has

-- from the stack of a header to how it plays and to what is made for it, and back
pub plays-from-stack : (h : Header) (P : AnyPlay → Type 0) → IfFound (stack_at h) (λ a. P a.plays) → IfFound (plays_at h) P
plays-from-stack h P there =
    let x = kind_at h.net h.stack in
    same-found (λ k. (stack k h.nodes).plays) (λ k. plays k h.nodes) (λ k. plays-of-stack k h.nodes) x P
    (mapped-found x (λ k. (stack k h.nodes).plays) P (found-mapped x (λ k. stack k h.nodes) (λ a. P a.plays) there))

pub stack-from-plays : (h : Header) (P : AnyPlay → Type 0) → IfFound (plays_at h) P → IfFound (stack_at h) (λ a. P a.plays)
stack-from-plays h P there =
    let x = kind_at h.net h.stack in
    mapped-found x (λ k. stack k h.nodes) (λ a. P a.plays) (found-mapped x (λ k. (stack k h.nodes).plays) P
    (same-found (λ k. plays k h.nodes) (λ k. (stack k h.nodes).plays) (λ k. sym (plays-of-stack k h.nodes)) x P there))

pub made-from-stack : (h : Header) (P : AnyMade → Type 0) → IfFound (stack_at h) (λ a. P (made_in a)) → IfFound (makes_at h) P
made-from-stack h P there =
    let x = kind_at h.net h.stack in
    same-found (λ k. made_in (stack k h.nodes)) (λ k. makes k h.nodes) (λ k. made-of-stack k h.nodes) x P
    (mapped-found x (λ k. made_in (stack k h.nodes)) P (found-mapped x (λ k. stack k h.nodes) (λ a. P (made_in a)) there))

pub stack-from-made : (h : Header) (P : AnyMade → Type 0) → IfFound (makes_at h) P → IfFound (stack_at h) (λ a. P (made_in a))
stack-from-made h P there =
    let x = kind_at h.net h.stack in
    mapped-found x (λ k. stack k h.nodes) (λ a. P (made_in a)) (found-mapped x (λ k. made_in (stack k h.nodes)) P
    (same-found (λ k. makes k h.nodes) (λ k. made_in (stack k h.nodes)) (λ k. sym (made-of-stack k h.nodes)) x P there))

-- the header of a stack on its own network with as many nodes as it may have is that of claims on it
abbrev pub claims_header : StackId → Header
claims_header i = record { net = (row_of i).net; stack = i; nodes = (row_of i).most }

pub claims-from-stack : (i : StackId) (P : AnyClaims → Type 0) → IfFound (stack_at (claims_header i)) (λ a. P (claims_in a)) → IfFound (claims_on i) P
claims-from-stack i P there =
    let x = kind_at (row_of i).net i in
    let n = (row_of i).most in
    same-found (λ k. claims_in (stack k n)) (λ k. claims k n) (λ k. claims-of-stack k n) x P
    (mapped-found x (λ k. claims_in (stack k n)) P (found-mapped x (λ k. stack k n) (λ a. P (claims_in a)) there))

pub stack-from-claims : (i : StackId) (P : AnyClaims → Type 0) → IfFound (claims_on i) P → IfFound (stack_at (claims_header i)) (λ a. P (claims_in a))
stack-from-claims i P there =
    let x = kind_at (row_of i).net i in
    let n = (row_of i).most in
    mapped-found x (λ k. stack k n) (λ a. P (claims_in a)) (found-mapped x (λ k. claims_in (stack k n)) P
    (same-found (λ k. claims k n) (λ k. claims_in (stack k n)) (λ k. sym (claims-of-stack k n)) x P there))
