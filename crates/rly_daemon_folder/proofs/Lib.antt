mod Inputs
mod LookLists
