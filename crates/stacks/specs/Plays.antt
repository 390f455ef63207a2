-- How the schedules of a stack play, whatever the types of its states and messages.
use Rattle.std.specs.Prelude.{ℕ, Bool, List, Option}
use Rattle.check_text.specs.Claims.{Claim}
use Rattle.schedule_text.specs.declared.header.Header.{Header}
use Rattle.vst_base.specs.declared.step.Item.{Item}
use Rattle.vst_base.specs.declared.step.Step.{Step}
use Rattle.vst_base.specs.declared.step.StepRefusal.{StepRefusal}
use Rattle.xform_stack.specs.Systems.{Played}

pub data Found (A : Type 1) : Type 1 where
  Here : A → Found A
  Nowhere : Found A

-- it is there, and so
abbrev pub IfFound : {A : Type 1} → Found A → (A → Type 0) → Type 0
IfFound Nowhere P = ⊥
IfFound (Here a) P = P a

abbrev pub found_or : {A : Type 1} {B : Type 0} → B → (A → B) → Found A → B
found_or b f Nowhere = b
found_or b f (Here a) = f a

abbrev pub found_map : {A B : Type 1} → (A → B) → Found A → Found B
found_map f Nowhere = Nowhere
found_map f (Here a) = Here (f a)

-- how inputs and outputs are read and spelled, and which outputs are replies
pub record Texts (I O : Type 0) : Type 0 where
  pub input_of : List ℕ → Option I
  pub input_text : I → List ℕ
  pub output_of : List ℕ → Option O
  pub output_text : O → List ℕ
  pub is_reply : O → Bool

abbrev pub texts_of : {I O : Type 0} → (List ℕ → Option I) → (I → List ℕ) → (List ℕ → Option O) → (O → List ℕ) → (O → Bool) → Texts I O
texts_of input_of input_text output_of output_text is_reply =
    record { input_of = input_of; input_text = input_text; output_of = output_of; output_text = output_text; is_reply = is_reply }

-- the image below a trace: its header, if it has one, and how its other lines are spelled
pub record ImageTexts (G : Type 0) : Type 0 where
  pub header : Option Header
  pub line : G → List ℕ

abbrev pub image_of : {G : Type 0} → Option Header → (G → List ℕ) → ImageTexts G
image_of header line = record { header = header; line = line }

-- of a schedule the first step that the network refuses, what clients see, and the image; and the texts of these
pub record Play (I O G : Type 0) : Type 0 where
  pub refused : List (Step I) → Option (ℕ × StepRefusal)
  pub trace : List (Step I) → List (Item I O)
  pub image : List (Step I) → List G
  pub texts : Texts I O
  pub below : ImageTexts G

abbrev pub play_of : {I O G : Type 0} → Played I O G → Texts I O → ImageTexts G → Play I O G
play_of p t below = record { refused = p.refused; trace = p.trace; image = p.image; texts = t; below = below }

-- how a stack plays, of any inputs, outputs and lines of an image, with what it means that an image explains a trace
pub record AnyPlay : Type 1 where
  pub Input : Type 0
  pub Output : Type 0
  pub Line : Type 0
  pub play : Play Input Output Line
  pub Explains : Claim Input Output Line → Type 0

abbrev pub any_play : {I O G : Type 0} → Play I O G → (Claim I O G → Type 0) → AnyPlay
any_play {I = I} {O = O} {G = G} play Explains = record { Input = I; Output = O; Line = G; play = play; Explains = Explains }
