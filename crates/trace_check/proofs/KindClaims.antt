-- A yes on a claim on each kind of stack, of any handlers and any machine that are spelled.
use Rattle.std.specs.Prelude.{◌<◌}
use Rattle.std.proofs.Common.{arith}
use Rattle.schedule_text.specs.Headers.{IsBy, IsHeader}
use Rattle.schedule_text.specs.declared.header.Header.{Header}
use Rattle.stacks.specs.Claimed.{claims}
use Rattle.stacks.specs.Fits.{AreCarried, HasItsNodes, IsFit}
use Rattle.stacks.specs.Kinds.{Alone, Backed, Clustered, Itself, Kind, Layers, Own, Steady, Through, service}
use Rattle.vst_base.specs.Stacks.{row_of}
use Rattle.vst_base.specs.declared.stack.StackRow.{StackRow}
use Rattle.trace_check.specs.Spelled.{AreSpelledLayers, IsSpelledKind}
use Rattle.trace_check.proofs.BackupClaims.{backup-decided}
use Rattle.trace_check.proofs.ClusterClaims.{cluster-decided}
use Rattle.trace_check.proofs.ReadClaims.{AreApart}
use Rattle.trace_check.proofs.ScheduleClaims.{alone-decided, itself-decided}
use Rattle.trace_check.proofs.Sights.{layers-seen, layers-texts}
use Rattle.trace_check.proofs.Verdicts.{IsDecided}

module _ (apart : AreApart) (own_row : (h : Header) → IsHeader h → IsBy (row_of h.stack) h) (row : StackRow) (few_nodes : row.most < 4294967296) where
  -- with a transformer the claims are the same
  layers-decided : (l : Layers) → HasItsNodes row l → AreCarried l → AreSpelledLayers l → IsDecided row.most (claims (Steady l) row.most)
  layers-decided (Own h) nodes carried is =
      itself-decided apart own_row row.most few_nodes h.own (service (Own h)) (omega (arith, nodes.most)) is.texts (λ k least most. layers-seen row k (omega (arith, nodes.least, least)) (omega (arith, nodes.most, most)) (Own h) nodes carried is) row.most
  layers-decided (Alone p) nodes carried is = alone-decided apart row.most few_nodes p (layers-seen row row.most (omega (arith, nodes.nodes.least, nodes.nodes.most)) (omega arith) (Alone p) nodes carried is) row.most
  layers-decided (Backed p) nodes carried is = backup-decided apart row.most p is row.most
  layers-decided (Through t l) nodes carried is = layers-decided l nodes carried.1 is.1
  layers-decided (Itself i l) nodes carried is =
      itself-decided apart own_row row.most few_nodes i (service l) (omega (arith, nodes.0.most)) (layers-texts l is)
      (λ k least most. layers-seen row k (omega (arith, nodes.0.least, least)) (omega (arith, nodes.0.most, most)) l nodes.1 carried.1 is) row.most

pub kind-decided : AreApart → ((h : Header) → IsHeader h → IsBy (row_of h.stack) h) → (row : StackRow) (k : Kind) → IsFit row k → IsSpelledKind k → IsDecided row.most (claims k row.most)
kind-decided apart own_row row (Steady l) fit is = layers-decided apart own_row row (omega (arith, fit.few)) l fit.nodes.nodes fit.nodes.carried is
kind-decided apart own_row row (Clustered k) fit is = cluster-decided apart row.most k is.machine row.most
