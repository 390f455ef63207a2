use Rattle.node_histories.proofs.Growing.{seen_goes_on, view_goes_on}
use Rattle.node_histories.proofs.Showing.{less_is_explained, shows_itself, views_go_on}
use Rattle.node_histories.proofs.laws.less_is_explained.Goals as goal

pub returns : goal.returns
returns g c = record {
  explained = less_is_explained _ _ _;
  shows_itself = shows_itself _ _;
  views_of_views = views_go_on _ _;
  seen_goes_on = seen_goes_on _ _;
  view_goes_on = view_goes_on _ _;
}
