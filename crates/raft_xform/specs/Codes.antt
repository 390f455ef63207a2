-- A code for what a node knows, as the state's view needs one.
use Rattle.std.specs.Prelude.{◌≡◌, ℕ, zero, suc, List, Option, Some, None, refl}
use Rattle.std.specs.Coded.{Coded, code_by, coded×, coded_list, coded_option, coded_ℕ}
use Rattle.vst_base.specs.declared.entry.Entry.{Entry}
use Rattle.vst_base.specs.declared.what.What.{What}
use Rattle.vst_base.specs.declared.what.What.TheVariants.{Noop, Request}
use Rattle.raft_clients.specs.Sessions.{Sessions, sessions_code}
use Rattle.raft_commit.specs.Peers.{PeerView}
use Rattle.raft_election.specs.Ballots.{BallotView}
use Rattle.raft_xform.specs.declared.role.Role.{Role}
use Rattle.raft_xform.specs.declared.role.Role.TheVariants as role
use Rattle.raft_xform.specs.Nodes.{RaftView}

abbrev role_number : Role → ℕ
role_number role.Follower = 0
role_number role.Candidate = 1
role_number role.Leader = 2

abbrev numbered_role : ℕ → Role
numbered_role zero = role.Follower
numbered_role (suc zero) = role.Candidate
numbered_role (suc (suc n)) = role.Leader

pub role_back : (r : Role) → numbered_role (role_number r) ≡ r
role_back role.Follower = refl
role_back role.Candidate = refl
role_back role.Leader = refl

abbrev role_code : Coded Role
role_code = code_by ℕ coded_ℕ role_number numbered_role role_back

abbrev ballot_code : Coded BallotView
ballot_code =
    code_by (ℕ × (Option ℕ × ℕ)) (coded× coded_ℕ (coded× (coded_option coded_ℕ) coded_ℕ)) (λ b. (b.term, (b.voted, b.votes)))
    (λ p. record { term = p.0; voted = p.1.0; votes = p.1.1 }) (λ _. refl)

abbrev peer_code : Coded PeerView
peer_code = code_by (ℕ × ℕ) (coded× coded_ℕ coded_ℕ) (λ p. (p.next, p.matched)) (λ p. record { next = p.0; matched = p.1 }) (λ _. refl)

abbrev what_parts : {C : Type 0} → What C → Option (ℕ × (ℕ × (ℕ × C)))
what_parts Noop = None
what_parts (Request client request origin cmd) = Some (client, (request, (origin, cmd)))

abbrev what_of : {C : Type 0} → Option (ℕ × (ℕ × (ℕ × C))) → What C
what_of None = Noop
what_of (Some p) = Request p.0 p.1.0 p.1.1.0 p.1.1.1

pub what_back : {C : Type 0} (w : What C) → what_of (what_parts w) ≡ w
what_back Noop = refl
what_back (Request client request origin cmd) = refl

abbrev what_code : {C : Type 0} → Coded C → Coded (What C)
what_code {C} cmd =
    code_by (Option (ℕ × (ℕ × (ℕ × C)))) (coded_option (coded× coded_ℕ (coded× coded_ℕ (coded× coded_ℕ cmd)))) what_parts what_of what_back

abbrev entry_code : {C : Type 0} → Coded C → Coded (Entry C)
entry_code {C} cmd = code_by (ℕ × What C) (coded× coded_ℕ (what_code cmd)) (λ e. (e.term, e.what)) (λ p. record { term = p.0; what = p.1 }) (λ _. refl)

abbrev pub raft_code : {S C O : Type 0} → Coded S → Coded C → Coded O → Coded (RaftView S C O)
raft_code {S} {C} {O} machine cmd output =
    code_by (Role × (BallotView × (List (Entry C) × (ℕ × (ℕ × (List PeerView × (S × Sessions O)))))))
    (coded× role_code (coded× ballot_code (coded× (coded_list (entry_code cmd)) (coded× coded_ℕ (coded× coded_ℕ (coded× (coded_list peer_code) (coded× machine (sessions_code output))))))))
    (λ s. (s.role, (s.ballot, (s.log, (s.commit, (s.applied, (s.peers, (s.machine, s.sessions))))))))
    (λ p. record {
      role = p.0;
      ballot = p.1.0;
      log = p.1.1.0;
      commit = p.1.1.1.0;
      applied = p.1.1.1.1.0;
      peers = p.1.1.1.1.1.0;
      machine = p.1.1.1.1.1.1.0;
      sessions = p.1.1.1.1.1.1.1;
    }) (λ _. refl)
