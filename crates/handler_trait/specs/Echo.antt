-- A small application, on which definitions are computed: a node says back what it is given, and tells node 0.
use Rattle.std.specs.Prelude.{ℕ, ◌+◌, ◌*◌, ◌/◌, max, ◌==◌, ◌||◌, [], ◌∷◌}
use Rattle.handler_trait.specs.Handling.{Meaning, Recovery}

-- nodes 1 and 2 take input. A state is the greatest that its node saw, where a message counts its source in the hundreds. A timer
-- raises it to 40, says so, and knocks at the node's own door
abbrev pub echo : ℕ → Meaning ℕ ℕ ℕ ℕ
echo nodes = record {
  nodes = nodes;
  takes_input = λ n. (n == 1) || (n == 2);
  init = λ n. n;
  input = λ n s i. record { state = max s i; outputs = i ∷ []; sends = (0, i) ∷ [] };
  message = λ n s from c. record { state = max s (100 * from + c); outputs = c ∷ []; sends = [] };
  timeout = λ n s. record { state = max s 40; outputs = 40 ∷ []; sends = (n, 9) ∷ [] };
}

-- a node that stops keeps half of its state, and starts again with its number added
abbrev pub echo_recovery : Recovery ℕ ℕ
echo_recovery = record { keep = λ s. s / 2; reboot = λ n k. k + n }
