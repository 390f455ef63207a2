-- Texts that rows of many crates are about.
use Rattle.std.specs.Prelude.{ℕ, List, codes}

-- two nodes on which nothing happens; client 1 asks for the lock, the server hears it, and client 1 hears that it has it; a packet that
-- was never sent; a put at a machine alone
abbrev pub idle : List ℕ
idle = codes "schedule 1 bag lock 2\n"

abbrev pub handover : List ℕ
handover = codes "schedule 1 bag lock 2\nin 1 lock\ndeliver 0\ndeliver 1\n"

abbrev pub unsent : List ℕ
unsent = codes "schedule 1 bag lock 2\ndeliver 7\n"

abbrev pub put : List ℕ
put = codes "schedule 1 one kv 1\nin 0 put a x\n"

-- what a replay writes of three of them
abbrev pub idle_claim : List ℕ
idle_claim = codes "below\nschedule 1 bag lock 2\n"

abbrev pub handover_claim : List ℕ
handover_claim = codes "in 1 lock\nout 1 locked\nbelow\nschedule 1 bag lock 2\nin 1 lock\ndeliver 0\ndeliver 1\n"

abbrev pub put_claim : List ℕ
put_claim = codes "in 0 put a x\nout 0 a =x -\nbelow\nschedule 1 one kv 1\nin 0 put a x\n"

-- claims that their images do not explain: a lock out of nothing, and another answer to the put
abbrev pub groundless_claim : List ℕ
groundless_claim = codes "out 1 locked\nbelow\nschedule 1 bag lock 2\n"

abbrev pub mistaken_put_claim : List ℕ
mistaken_put_claim = codes "in 0 put a x\nout 0 a =y -\nbelow\nschedule 1 one kv 1\nin 0 put a x\n"
