use Rattle.std.specs.List.{slice_get}
use Rattle.std.proofs.Common.{◌≡◌, ◌∙◌, ◌+◌, ℕ, List, [], ◌∷◌, Option, None, Some, Ok, Err, Result, ap, refl, sym, arith}
use Rattle.disk.specs.Acts.{Act, BeginFailed}
use Rattle.outside.specs.declared.device.Address.{Address}
use Rattle.node_config.specs.Examples.{local, sample_with}
use Rattle.node_config.specs.Outcomes.{Fits}
use Rattle.node_device.specs.Telling.{Told}
use Rattle.node_config.specs.declared.config.Config.{Config}
use Rattle.node_config.specs.declared.key.ConfigKey.{ConfigKey}
use Rattle.node_config.specs.declared.key.ConfigKey.TheVariants as key
use Rattle.node_config.specs.declared.limits.TheConstants.{MAX_CONFIG}
use Rattle.node_device.specs.Examples.{counts, node_at, untold}
use Rattle.commands.specs.NodeExamples.{alone, device}
use Rattle.commands.specs.NodeSeen.{DeviceSeen}
use Rattle.commands.proofs.NodeSilent.{configured, one_more, served}
use Rattle.commands.proofs.node_examples.worked_comings.Goals as goal

pub returns-clause-served : goal.returns-clause-served
returns-clause-served c = served _ _ (record { begin = refl; receive = refl; store = refl; send = omega arith })

pub returns-clause-served_though_a_send_failed : goal.returns-clause-served_though_a_send_failed
returns-clause-served_though_a_send_failed c = served _ _ (record { begin = refl; receive = refl; store = refl; send = omega arith })

pub returns-clause-not_served_where_a_store_failed : goal.returns-clause-not_served_where_a_store_failed
returns-clause-not_served_where_a_store_failed c = λ h. let e : ◌≡◌ {A = ℕ} 2 1 = h.counts.store in omega (arith, e)

pub returns-clause-not_served_where_the_device_stopped_telling : goal.returns-clause-not_served_where_the_device_stopped_telling
returns-clause-not_served_where_the_device_stopped_telling c = λ h. omega (arith, h.turns)

pub returns-clause-ended : goal.returns-clause-ended
returns-clause-ended c = record {
  config = alone;
  at = node_at 7000;
  configured_so = configured _ _;
  areas = tt;
  ended = refl;
  counts = record { begin = refl; receive = omega arith; store = refl; send = omega arith };
}

pub returns-clause-not_ended_uncounted : goal.returns-clause-not_ended_uncounted
returns-clause-not_ended_uncounted c = λ h. omega (arith, h.counts.receive)

pub returns-clause-not_ended_by_another : goal.returns-clause-not_ended_by_another
returns-clause-not_ended_by_another c = λ h. let e : ◌≡◌ {A = ℕ} 2 1 = h.counts.store in omega (arith, e)

pub returns-clause-unbegun : goal.returns-clause-unbegun
returns-clause-unbegun c = record {
  config = alone;
  at = node_at 7000;
  configured_so = configured _ _;
  told = refl;
  counts = (omega arith, refl);
}

pub returns-clause-not_unbegun_uncounted : goal.returns-clause-not_unbegun_uncounted
returns-clause-not_unbegun_uncounted c = λ h. omega (arith, h.counts.0)

-- what reading a configuration that is refused comes to
abbrev failed : ConfigKey → Result Config ConfigKey
failed = Err

-- a device of which a receive failed is not as it was
touched : device untold (counts 2 1) ≡ device untold (counts 1 1) → ⊥
touched stays = let e : ◌≡◌ {A = ℕ} 2 1 = ap (λ (d : DeviceSeen). d.faults.receive) stays in omega (arith, e)

pub returns-clause-refused : goal.returns-clause-refused
returns-clause-refused c = record { says = c.worked_texts.ensures.no_text; given = refl; quiet = refl; device_stays = refl }

pub returns-clause-not_refused_for_another_key : goal.returns-clause-not_refused_for_another_key
returns-clause-not_refused_for_another_key c = λ h. let e : failed key.Stack ≡ failed key.Me = sym c.worked_texts.ensures.no_text ∙ h.says in cc

pub returns-clause-not_refused_where_a_read_failed : goal.returns-clause-not_refused_where_a_read_failed
returns-clause-not_refused_where_a_read_failed c = λ h. let e : ◌≡◌ {A = ℕ} 1 0 = h.quiet in omega (arith, e)

pub returns-clause-not_refused_where_a_receive_failed : goal.returns-clause-not_refused_where_a_receive_failed
returns-clause-not_refused_where_a_receive_failed c = λ h. touched h.device_stays

pub returns-clause-unread : goal.returns-clause-unread
returns-clause-unread c = record { given = (0, omega arith, refl); rose = omega arith; device_stays = refl }

pub returns-clause-not_unread_uncounted : goal.returns-clause-not_unread_uncounted
returns-clause-not_unread_uncounted c = λ h. omega (arith, h.rose)

pub returns-clause-not_unread_where_a_receive_failed : goal.returns-clause-not_unread_where_a_receive_failed
returns-clause-not_unread_where_a_receive_failed c = λ h. touched h.device_stays

pub returns-clause-wanted : goal.returns-clause-wanted
returns-clause-wanted c = record { quiet = refl; device_stays = refl }

pub returns-clause-not_wanted_where_a_read_failed : goal.returns-clause-not_wanted_where_a_read_failed
returns-clause-not_wanted_where_a_read_failed c = λ h. let e : ◌≡◌ {A = ℕ} 1 0 = h.quiet in omega (arith, e)

pub returns-clause-not_wanted_where_a_receive_failed : goal.returns-clause-not_wanted_where_a_receive_failed
returns-clause-not_wanted_where_a_receive_failed c = λ h. touched h.device_stays

pub returns-clause-not_refused_where_more_was_read : goal.returns-clause-not_refused_where_more_was_read
returns-clause-not_refused_where_more_was_read c = λ h. one_more (MAX_CONFIG + 1) h.given

sample_fits : Fits 0 (sample_with 0 [])
sample_fits = record {
  stack = refl;
  me_is = refl;
  within = omega arith;
  peers = omega arith;
  clients = omega arith;
  ports = refl;
  distinct = refl;
  heartbeat = (omega arith, omega arith);
  election = (omega arith, omega arith);
}

pub returns-clause-unbegun_where_it_is_configured : goal.returns-clause-unbegun_where_it_is_configured
returns-clause-unbegun_where_it_is_configured c = record {
  config = sample_with 0 [];
  at = local 7000;
  configured_so = record { read = record { fits = sample_fits; says = c.worked_texts.ensures.whole; ended = refl; quiet = refl }; at_is = refl };
  told = refl;
  counts = (omega arith, refl);
}

-- the port and the first byte of the directory of the first act, where a beginning failed
abbrev port_in : List Act → ℕ
port_in [] = 0
port_in (BeginFailed at dir ∷ acts) = at.port
port_in (act ∷ acts) = 0

abbrev byte_in : List Act → ℕ
byte_in [] = 0
byte_in (BeginFailed at [] ∷ acts) = 0
byte_in (BeginFailed at (b ∷ dir) ∷ acts) = b
byte_in (act ∷ acts) = 0

abbrev acts_in : Option Told → List Act
acts_in None = []
acts_in (Some told) = told.acts

abbrev port_of : Option Address → ℕ
port_of None = 0
port_of (Some at) = at.port

abbrev own_port : Result Config ConfigKey → ℕ
own_port (Ok config) = port_of (slice_get config.peers config.me)
own_port (Err key) = 0

pub returns-clause-not_unbegun_at_another_address : goal.returns-clause-not_unbegun_at_another_address
returns-clause-not_unbegun_at_another_address c = λ h.
    let did : ◌≡◌ {A = ℕ} 7001 h.at.port = ap (λ t. port_in (acts_in t)) h.told in
    let own : ◌≡◌ {A = ℕ} (port_of (slice_get h.config.peers h.config.me)) 7000 = ap own_port (sym h.configured_so.read.says ∙ c.worked_texts.ensures.whole) in
    let at : ◌≡◌ {A = ℕ} (port_of (slice_get h.config.peers h.config.me)) h.at.port = ap port_of h.configured_so.at_is in
    omega (arith, did, own, at)

pub returns-clause-not_unbegun_in_another_directory : goal.returns-clause-not_unbegun_in_another_directory
returns-clause-not_unbegun_in_another_directory c = λ h.
    let did : ◌≡◌ {A = ℕ} 101 100 = ap (λ t. byte_in (acts_in t)) h.told in omega (arith, did)

pub returns-clause-not_unbegun_in_silence : goal.returns-clause-not_unbegun_in_silence
returns-clause-not_unbegun_in_silence c = λ h.
    let did : ◌≡◌ {A = ℕ} 0 100 = ap (λ t. byte_in (acts_in t)) h.told in omega (arith, did)
