-- Handlers whose events put out one value, which has what those within put out.
use Rattle.std.specs.Prelude.{List, [], ◌∷◌}
use Rattle.handler_trait.specs.Handling.{Effect, Meaning}

abbrev pub told : {S O M : Type 0} → Effect S O M → Effect S (List O) M
told e = record { state = e.state; outputs = e.outputs ∷ []; sends = e.sends }

abbrev pub telling : {S I O M : Type 0} → Meaning S I O M → Meaning S I (List O) M
telling m = record {
  nodes = m.nodes;
  takes_input = m.takes_input;
  init = m.init;
  input = λ n s i. told (m.input n s i);
  message = λ n s from c. told (m.message n s from c);
  timeout = λ n s. told (m.timeout n s);
}
